-- The images of a command line, and the form of its report.
use Rattle.std.specs.Prelude.{Bool, false, not, ◌&&◌, ◌==◌, if◌then◌else◌, length}
use Rattle.std.specs.Option.{option_map_or}
use Rattle.std.specs.Str.{bytes_eq}
use lib.Chars.{codes}
use Rattle.check_line.specs.declared.line.CheckLine.{CheckLine}
use Rattle.check_report.specs.declared.rows.form.Colours.{Colours}
use Rattle.check_report.specs.declared.rows.form.Colours.TheVariants as colours
use Rattle.check_report.specs.declared.rows.form.Form.{Form}
use Rattle.check_report.specs.declared.rows.form.Form.TheVariants as forms
use Rattle.cbfscheck.specs.declared.request.Images.{Images}
use Rattle.cbfscheck.specs.declared.request.Images.TheVariants.{One, OldAndNew}
use Rattle.cbfscheck.specs.declared.request.Screen.{Screen}

-- in the order in which they are opened
abbrev pub images_of : CheckLine → Images
images_of line = option_map_or (OldAndNew line.image) line.new_image (One line.image)

-- NO_COLOR is set, and not empty
abbrev pub refuses_colours : Screen → Bool
refuses_colours screen = option_map_or (λ value. not (length value.now == 0)) screen.no_color false

-- TERM is set, and names no dumb terminal
abbrev pub has_colours : Screen → Bool
has_colours screen =
    option_map_or (λ name. not (bytes_eq name.now (codes "dumb"))) screen.term false

abbrev pub colours_of : Screen → Colours
colours_of screen =
    if has_colours screen && not (refuses_colours screen) then colours.On else colours.Off

-- JSON on request, tables on a terminal, and otherwise text
abbrev pub form_of : CheckLine → Screen → Form
form_of line screen = if line.is_json then forms.Json
    else if screen.is_terminal then forms.Terminal (colours_of screen) else forms.Text
