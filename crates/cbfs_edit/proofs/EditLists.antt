-- Steps of edits, and lists of edits.
use Rattle.std.proofs.Common.{◌≡◌, List, ℕ, Result, Err, ap, refl, sym, ◌+◌, ◌<◌, ◌≤◌, [], ◌∷◌, ◌++◌, length, take, drop, set, get_or, subst, ◌∙◌, arith, rules}
use Rattle.std.specs.Prelude.{IsErrOf, sum_by}
use Rattle.flash_device.specs.Regions.{Range}
use Rattle.cbfs_edit.specs.Changes.{by_device, by_source}
use Rattle.cbfs_edit.specs.Changes.{Run, Step, edit_calls, faults_of}
use Rattle.cbfs_edit.specs.declared.edit.Reply.{Reply}
use Rattle.cbfs_edit.specs.declared.fault.EditFault.{EditFault}
use Rattle.cbfs_edit.specs.declared.group.CellRange.{CellRange}
use Rattle.std.proofs.lemmas.List.{take_all, take_more, take_more_set, drop-set-lt, drop-drop, get_or-drop}
use Rattle.std.proofs.Math.ListN.{length-set}
use Rattle.std.proofs.lemmas.List.Sums.{sum_by_more, sum_by-append}
use Rattle.flash_device.specs.Device.{Device}
use Rattle.flash_device.specs.Pages.{Pages, HasChanged}
use Rattle.cbfs_edit.specs.declared.edit.Edit.{Edit}
use Rattle.cbfs_edit.specs.declared.fault.EditFault.TheVariants as faults

-- a removal has no source
pub sourceless : (fault : EditFault) → (let a : Result CellRange EditFault = Err fault in IsErrOf a faults.Source → ⊥) → by_source fault ≡ 0
sourceless faults.Source no_source = absurd (no_source refl)
sourceless fault no_source = refl

-- ---- a list with one more step

module _ {S : Type 0} (facts : S → Device) (region : Range) where
  run-push : (olds news : List (Edit S)) (replies : List Reply) (before mid after : Device) (old new : Edit S) (reply : Reply) → Run facts region olds news replies before mid → Step facts region old new mid reply after
      → Run facts region (olds ++ old ∷ []) (news ++ new ∷ []) (replies ++ reply ∷ []) before after
  run-push [] [] [] before mid after old new reply run one = (after, subst (λ (s : Device). Step facts region old new s reply after) run one, refl)
  run-push (e ∷ olds) (f ∷ news) (r ∷ replies) before mid after old new reply run one = (run.0, run.1, run-push olds news replies run.0 mid after old new reply run.2 one)
  run-push olds news replies before mid after old new reply run one = absurd run

  run_more : (olds edits : List (Edit S)) (replies : List Reply) (i : ℕ) (d f : Edit S) (reply : Reply) (before mid after : Device) → i < length olds → i < length edits → i < length replies
      → Run facts region (take i olds) (take i edits) (take i replies) before mid → Step facts region (get_or olds i d) f mid reply after
      → Run facts region (take (i + 1) olds) (take (i + 1) (set edits i f)) (take (i + 1) (set replies i reply)) before after
  run_more olds edits replies i d f reply before mid after in_olds in_edits in_replies run one =
      rw (take_more olds i d in_olds, take_more_set edits i f in_edits, take_more_set replies i reply in_replies)
      (run-push (take i olds) (take i edits) (take i replies) before mid after (get_or olds i d) f reply run one)

same_edit : {S : Type 0} (olds edits : List (Edit S)) (i : ℕ) (d : Edit S) → drop i edits ≡ drop i olds → get_or edits i d ≡ get_or olds i d
same_edit {S = S} olds edits i d same =
    let here : i + 0 ≡ i = omega arith in
    ap (λ n. get_or edits n d) (sym here) ∙ sym (get_or-drop i edits 0 d) ∙ ap (λ (l : List (Edit S)). get_or l 0 d) same ∙ get_or-drop i olds 0 d ∙ ap (λ n. get_or olds n d) here

module _ {F S : Type 0} (facts : S → Device) where
  -- the first edits are applied, the others are unchanged
  pub record Applied (region : Range) (olds edits : List (Edit S)) (replies : List Reply) (i : ℕ) (old now : Pages F) : Type 0 where
    pub after : HasChanged region (sum_by (edit_calls region.size) (take i olds)) (sum_by (faults_of by_device) (take i replies)) old now
    pub as_many : length edits ≡ length olds
    pub replied : length replies ≡ length olds
    pub others : drop i edits ≡ drop i olds
    pub run : Run facts region (take i olds) (take i edits) (take i replies) old.device now.device

  pub applied_more : (region : Range) (olds edits : List (Edit S)) (replies : List Reply) (i : ℕ) (e f : Edit S) (old now new : Pages F) (reply : Reply)
      → Applied region olds edits replies i old now
      → i < length edits
      → e ≡ get_or edits i e
      → HasChanged region (edit_calls region.size e) (faults_of by_device reply) now new
      → Step facts region e f now.device reply new.device
      → Applied region olds (set edits i f) (set replies i reply) (i + 1) old new
  applied_more region olds edits replies i e f old now new reply so_far in_edits is after step =
      let was : e ≡ get_or olds i e = is ∙ same_edit olds edits i e so_far.others in
      let in_olds : i < length olds = omega (arith, in_edits, so_far.as_many) in
      let in_replies : i < length replies = omega (arith, in_olds, so_far.replied) in
      record {
        after =
            let calls : sum_by (edit_calls region.size) (take (i + 1) olds) ≡ sum_by (edit_calls region.size) (take i olds) + edit_calls region.size e =
            sum_by_more (edit_calls region.size) olds i e in_olds ∙ rw (← was) refl in
            let faults : sum_by (faults_of by_device) (take (i + 1) (set replies i reply)) ≡ sum_by (faults_of by_device) (take i replies) + faults_of by_device reply =
            ap (λ (rs : List Reply). sum_by (faults_of by_device) rs) (take_more_set replies i reply in_replies) ∙ sum_by-append (faults_of by_device) (take i replies) (reply ∷ []) ∙ omega arith in
            rw (calls, faults) (search rules);
        as_many = length-set edits i f ∙ so_far.as_many;
        replied = length-set replies i reply ∙ so_far.replied;
        others =
            let next : i < i + 1 = omega arith in
            drop-set-lt (i + 1) edits i f next ∙ sym (drop-drop 1 i edits) ∙ ap (λ (l : List (Edit S)). drop 1 l) so_far.others ∙ drop-drop 1 i olds;
        run =
            run_more facts region olds edits replies i e f reply old.device now.device new.device in_olds in_edits in_replies so_far.run
            (subst (λ (k : Edit S). Step facts region k f now.device reply new.device) was step);
      }

  pub applied_none : (region : Range) (olds : List (Edit S)) (replies : List Reply) (old : Pages F) → length olds ≡ length replies → Applied region olds olds replies 0 old old
  applied_none region olds replies old same = record {
    after = search rules;
    as_many = refl;
    replied = sym same;
    others = refl;
    run = refl;
  }

  pub applied_all : (region : Range) (olds edits : List (Edit S)) (replies : List Reply) (i : ℕ) (old now : Pages F) → Applied region olds edits replies i old now → length olds ≤ i
      → HasChanged region (sum_by (edit_calls region.size) olds) (sum_by (faults_of by_device) replies) old now × Run facts region olds edits replies old.device now.device
  applied_all region olds edits replies i old now all ended =
      let first : take i olds ≡ olds = take_all i olds ended in
      let second : take i edits ≡ edits = take_all i edits (omega (arith, ended, all.as_many)) in
      let third : take i replies ≡ replies = take_all i replies (omega (arith, ended, all.replied)) in
      (rw (first, third) at all.after, rw (first, second, third) at all.run)
