-- The subcommands of cbfstool and their options. `CommandLine.command_of` refuses a line without a
-- required option.
use Rattle.std.specs.Prelude.{◌≡◌, ℕ, true, false, List, [], ◌∷◌, Some, fold}
use Prim.Native.String.{String}
use lib.Chars.{codes}
use Rattle.clap.specs.Words.{App, Rule, Shape, app_of, new_rule, with_rule}
use Rattle.clap.specs.declared.builder.command.Command.{Command}
use Rattle.clap.specs.declared.builder.command.Command.TheViews.{out-Command as fields_of}
use Rattle.cbfs_line.specs.declared.words.TableOption.{TableOption}
use Rattle.clap.specs.Simple.{new_shape}
use Rattle.clap.specs.declared.builder.action.ArgAction.TheVariants.{Set, SetTrue}

-- with a value; the letter is a character
abbrev pub option_of : String → ℕ → Rule
option_of id letter = record (new_rule (codes id)) { short = Some letter; action = Some Set }

abbrev pub subcommand : String → List Rule → Shape
subcommand name options = record (new_shape (codes name)) { rules = options }

-- `-v` has no value; `-M` of create names a file
abbrev pub subcommands : List Shape
subcommands = let region = option_of "region" 114 in
    let file = option_of "file" 102 in let name = option_of "name" 110 in
    let verbose = record (option_of "verbose" 118) { action = Some SetTrue } in
    subcommand "print" (region ∷ verbose ∷ []) ∷ subcommand "layout" []
    ∷ subcommand "extract" (region ∷ file ∷ name ∷ [])
    ∷ subcommand "add" (region ∷ name ∷ file ∷ option_of "type" 116
    ∷ option_of "alignment" 97 ∷ option_of "base" 98 ∷ option_of "hash" 65 ∷ [])
    ∷ subcommand "remove" (region ∷ name ∷ []) ∷ subcommand "read" (region ∷ file ∷ [])
    ∷ subcommand "write" (region ∷ file ∷ [])
    ∷ subcommand "create" (option_of "file" 77 ∷ region ∷ []) ∷ []

-- the arguments after IMAGE
abbrev pub command_line : App
command_line = let shape = new_shape (codes "cbfstool") in
    let top = record shape { is_leaf = false; no_binary_name = true; subcommand_required = true } in
    record { top = top; subs = subcommands }

-- ---- tables as clap commands

-- as defined, without a global option
pub record IsLocal (command : Command) (app : App) : Type 0 where
  pub local : (fields_of command).has_globals ≡ false
  pub shape : app_of command ≡ app

abbrev pub with_option : App → TableOption → App
with_option app o = with_rule app (record (new_rule o.id.now)
    { short = Some o.letter; action = Some o.action })

abbrev pub with_options : App → List TableOption → App
with_options app options = fold with_option app options
