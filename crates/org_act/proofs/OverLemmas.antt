-- Of the clocks before the first one that runs none runs.
use Rattle.std.proofs.Common.{◌≡◌, ◌∙◌, ℕ, ◌+◌, true, List, [], ◌∷◌, ◌++◌, length, refl, sym, ap, arith, append_assoc, length-append}
use Rattle.std.specs.Prelude.{Option, Some, None, slice_get}
use Rattle.std.specs.List.{list_all}
use Rattle.std.specs.Option.{option_and_then, option_map, option_to_list}
use Rattle.std.proofs.lemmas.Bool.{and_from}
use Rattle.std.proofs.lemmas.List.Folds.{list_all-append}
use Rattle.org_act.specs.ClockEntries.{is_over}
use Rattle.org_act.proofs.GivenLemmas.{gives}
use Rattle.org_amend.specs.Clocks.{first_running, from_unended, running_line, running_of, since, stamp_end}
use Rattle.org_amend.specs.declared.running.RunningClock.{RunningClock}
use Rattle.org_amend.proofs.EndedLemmas.{none_later}
use Rattle.org_class.specs.declared.class.Class.{Class}
use Rattle.org_class.specs.declared.class.Class.TheVariants as class
use Rattle.org_drawer.specs.Clock.{clock_of}
use Rattle.org_drawer.specs.declared.clock.ClockLine.{ClockLine}
use Rattle.org_entry.specs.Entry.{clocks_of}

slice_at : (pre ds : List Class) (d : Class) → slice_get (pre ++ d ∷ ds) (length pre) ≡ Some d
slice_at [] ds d = refl
slice_at (p ∷ pre) ds d = slice_at pre ds d

over_by : (at : ℕ) (l : List ℕ) (o : Option ClockLine) → clock_of l ≡ o → running_line at l ≡ None → list_all is_over (option_to_list o) ≡ true
over_by at l None was none = refl
over_by at l (Some clock) was none = by clock.to refl
  where
    by : (to : Option ℕ) → clock.to ≡ to → list_all is_over (clock ∷ []) ≡ true
    by (Some to) is = rw is refl
    by None is =
        let runs : since l ≡ Some clock.from = ap (option_and_then (λ c. from_unended c.from c.to)) was ∙ ap (from_unended clock.from) is in
        absurd (let wrong : ◌≡◌ {A = Option RunningClock} None (Some _) = sym none ∙ ap (option_map (λ from. record { at = at; len = length l; end = at + stamp_end l; from = from })) runs in cc)

line_over : (d : Class) (at : ℕ) (l : List ℕ) → running_of (Some d) at l ≡ None → list_all is_over (clocks_of d l) ≡ true
line_over class.Clock at l none = over_by at l (clock_of l) refl none
line_over class.Heading at l none = refl
line_over class.Planning at l none = refl
line_over class.DrawerOpen at l none = refl
line_over class.Node at l none = refl
line_over class.DrawerEnd at l none = refl
line_over class.Setting at l none = refl
line_over class.Comment at l none = refl
line_over class.BlockOpen at l none = refl
line_over class.Verbatim at l none = refl
line_over class.BlockEnd at l none = refl
line_over class.Plain at l none = refl

pub all_over : (pre ds post : List Class) (place at : ℕ) (ls : List (List ℕ)) → place ≡ length pre → length ds ≡ length ls → first_running (pre ++ (ds ++ post)) place at ls ≡ None →
    list_all is_over (gives clocks_of ls ds) ≡ true
unfolding gives first_running
all_over pre ds post place at [] is size none = refl
all_over pre [] post place at (l ∷ ls) is size none = absurd (omega (arith, size))
all_over pre (d ∷ ds) post place at (l ∷ ls) is size none =
    let cs = pre ++ (d ∷ (ds ++ post)) in
    let both = none_later (running_of (slice_get cs place) at l) (first_running cs (place + 1) (at + length l) ls) none in
    let class_is : slice_get cs place ≡ Some d = ap (slice_get cs) is ∙ slice_at pre (ds ++ post) d in
    let here : list_all is_over (clocks_of d l) ≡ true = line_over d at l (ap (λ c. running_of c at l) (sym class_is) ∙ both.0) in
    let next : place + 1 ≡ length (pre ++ d ∷ []) = omega (arith, is, length-append pre (d ∷ [])) in
    let moved : first_running ((pre ++ d ∷ []) ++ (ds ++ post)) (place + 1) (at + length l) ls ≡ None =
    ap (λ xs. first_running xs (place + 1) (at + length l) ls) (append_assoc pre (d ∷ []) (ds ++ post)) ∙ both.1 in
    let more = all_over (pre ++ d ∷ []) ds post (place + 1) (at + length l) ls next (omega (arith, size)) moved in
    list_all-append is_over (clocks_of d l) (gives clocks_of ls ds) ∙ and_from (list_all is_over (clocks_of d l)) (list_all is_over (gives clocks_of ls ds)) here more
