-- The clock sums of a text behind a clock that ended.
use Rattle.std.proofs.Common.{◌≡◌, ◌∙◌, ℕ, ◌+◌, ◌-◌, true, List, [], ◌∷◌, ◌++◌, length, map, refl, sym, ap}
use Rattle.std.specs.Prelude.{Option, Some, None, is_some, slice_get}
use Rattle.std.specs.Option.{option_map}
use Rattle.std.proofs.lemmas.List.{length-map, map-append}
use Rattle.org_act.specs.ClockSums.{gained}
use Rattle.org_act.specs.ClockTexts.{ActsAddMinutes, EndsAt, SumsGrow}
use Rattle.org_act.proofs.ClockEntryLemmas.{one_clock_closes}
use Rattle.org_act.proofs.ClockSumLemmas.{sums_grow_above}
use Rattle.org_act.proofs.ClockTextLemmas.{acts_end_one_clock, head_class}
use Rattle.org_act.proofs.GivenLemmas.{head_is, head_over}
use Rattle.org_amend.specs.Clocks.{minute_at}
use Rattle.org_cal.specs.declared.moment.Moment.{Moment}
use Rattle.org_class.specs.Classes.{section_classes}
use Rattle.org_class.specs.Heading.{begins_heading}
use Rattle.org_class.specs.Sections.{is_headed, sections}
use Rattle.org_class.specs.declared.class.Class.{Class}
use Rattle.org_class.specs.declared.class.Class.TheVariants as class
use Rattle.org_class.proofs.Runs.{first_line_headed}
use Rattle.org_entry.specs.Entry.{entries_of, entry_of, head_after}
use Rattle.org_head.specs.declared.head.Head.{Head}
use Rattle.org_lines.specs.Cuts.{lines}
use Rattle.org_outline.specs.Levels.{level_of, levels}
use Rattle.org_settings.specs.Settings.{FileSettings, settings_of}
use Rattle.org_store.specs.Outline.{file_entries, file_settings}
use Rattle.org_sum.specs.Measures.{clock_minutes}
use Rattle.org_sum.specs.Sums.{subtree_sum}

-- a heading's section has a level

one_head : (settings : FileSettings) (so_far : Option Head) (c : Class) (l : List ℕ) → is_some so_far ≡ true → is_some (head_after settings so_far c l) ≡ true
one_head settings so_far class.Heading l h = refl
one_head settings so_far class.Planning l h = h
one_head settings so_far class.DrawerOpen l h = h
one_head settings so_far class.Node l h = h
one_head settings so_far class.DrawerEnd l h = h
one_head settings so_far class.Clock l h = h
one_head settings so_far class.Setting l h = h
one_head settings so_far class.Comment l h = h
one_head settings so_far class.BlockOpen l h = h
one_head settings so_far class.Verbatim l h = h
one_head settings so_far class.BlockEnd l h = h
one_head settings so_far class.Plain l h = h

some_head : (settings : FileSettings) (so_far : Option Head) (ls : List (List ℕ)) (cs : List Class) → is_some so_far ≡ true → is_some (head_over settings so_far ls cs) ≡ true
unfolding head_over
some_head settings so_far [] cs h = h
some_head settings so_far (l ∷ ls) [] h = h
some_head settings so_far (l ∷ ls) (c ∷ cs) h = some_head settings (head_after settings so_far c l) ls cs (one_head settings so_far c l h)

headed : (settings : FileSettings) (ls : List (List ℕ)) (cs : List Class) → is_headed ls ≡ true → slice_get cs 0 ≡ Some class.Heading → is_some (head_over settings None ls cs) ≡ true
unfolding head_over
headed settings [] cs some first = absurd cc
headed settings (l ∷ ls) [] some first = absurd cc
headed settings (l ∷ ls) (c ∷ cs) some first =
    let is : c ≡ class.Heading = cc in
    some_head settings (head_after settings None c l) ls cs (ap (λ x. is_some (head_after settings None x l)) is)

level_there : (settings : FileSettings) (s : List ℕ) → begins_heading s ≡ true → is_some (level_of (entry_of settings s)) ≡ true
level_there settings s begins =
    let head : is_some (entry_of settings s).head ≡ true =
    ap is_some (head_is settings None 0 (lines s) (section_classes s)) ∙ headed settings (lines s) (section_classes s) (first_line_headed s ∙ begins) (head_class s begins) in
    by (entry_of settings s).head refl head
  where
    by : (o : Option Head) → (entry_of settings s).head ≡ o → is_some o ≡ true → is_some (level_of (entry_of settings s)) ≡ true
    by None is some = absurd cc
    by (Some h) is some = ap (λ o. is_some (option_map (λ x. x.level) o)) is

-- the entries of a text by its sections
entries_are : (settings : FileSettings) (text s : List ℕ) (before after : List (List ℕ)) → sections text ≡ before ++ s ∷ after →
    entries_of settings text ≡ map (entry_of settings) before ++ entry_of settings s ∷ map (entry_of settings) after
entries_are settings text s before after is = ap (map (entry_of settings)) is ∙ map-append (entry_of settings) before (s ∷ after)

grow : (line : ℕ) (now : Moment) (text new : List ℕ) → EndsAt line now text new → SumsGrow line now text new
grow line now text new h =
    let settings = file_settings text in
    let c = h.changes in
    let before = map (entry_of settings) c.before in
    let after = map (entry_of settings) c.after in
    let old = entry_of settings h.old in
    let own = entry_of settings h.own in
    let were : file_entries text ≡ before ++ old ∷ after = entries_are settings text h.old c.before c.after c.sections_were in
    let same : file_settings new ≡ settings = ap settings_of c.settings_are in
    let are : file_entries new ≡ before ++ own ∷ after = ap (λ s. entries_of s new) same ∙ entries_are settings new h.own c.before c.after c.sections_are in
    let at : length before ≡ h.place = length-map c.before (entry_of settings) ∙ c.place_is in
    let closes = one_clock_closes settings h.from (minute_at now) h.old h.own h.ended in
    record {
      place = h.place;
      begun = h.begun;
      from = h.from;
      in_time = h.in_time;
      sums = λ days counted heading hold.
          let f = clock_minutes days in
          let grown = sums_grow_above days h.from (minute_at now) before after old own counted heading h.in_time hold (level_there settings h.old c.begins) closes in
          ap (λ es. subtree_sum f es counted heading) are
          ∙ (grown
          ∙ (ap (λ es. subtree_sum f es counted heading + gained (levels es) counted (length before) (minute_at now - h.from) heading) (sym were)
          ∙ ap (λ k. subtree_sum f (file_entries text) counted heading + gained (levels (file_entries text)) counted k (minute_at now - h.from) heading) at));
    }

pub acts_add_minutes : ActsAddMinutes
acts_add_minutes line now text new day time e = grow line now text new (acts_end_one_clock line now text new day time e)
