-- Lines that are neither a heading line nor a planning line.
use Rattle.std.proofs.Common.{◌≡◌, ℕ, ◌+◌, ◌&&◌, Bool, true, false, inl, inr, Some, None, Option, List, [], ◌∷◌, length, refl, ap, ◌∙◌}
use Rattle.std.proofs.lemmas.Bool.{cases_Bool, and_parts, and_from}
use Rattle.std.specs.List.{flat_map, list_all}
use Rattle.org_class.specs.Blocks.{body_classes, block_name, opens_block, ends_block}
use Rattle.org_class.specs.Classes.{front_classes, is_leading}
use Rattle.org_class.specs.Drawers.{classes_below, drawer_classes, closes_drawer, is_drawer_end, is_drawer_open}
use Rattle.org_class.specs.LineClass.{is_comment, is_setting, line_class}
use Rattle.org_class.specs.declared.class.Class.{Class}
use Rattle.org_class.specs.declared.class.Class.TheVariants.{Heading, Planning, DrawerOpen, Node, DrawerEnd, Clock, Setting, Comment, BlockOpen, Verbatim, BlockEnd, Plain}
use Rattle.org_drawer.specs.declared.planning.Planning.{Planning as WhatIsPlanned}
use Rattle.org_entry.specs.Entry.{PlacedLine, placed, text_of, head_after}
use Rattle.org_entry.proofs.EntryWords.{head_from}
use Rattle.org_entry.specs.Planning.{planning_after, planning_from}
use Rattle.org_head.specs.declared.head.Head.{Head}
use Rattle.org_settings.specs.Settings.{FileSettings}
use Rattle.org_stamp.specs.Pair.{is_clock}

-- a line of this class is neither a heading line nor a planning line
abbrev pub is_other : Class → Bool
is_other Heading = false
is_other Planning = false
is_other _ = true

other-line : (l : List ℕ) → is_other (line_class l) ≡ true
other-line l = elim (cases_Bool (is_comment l)) [
  | inl e ↦ rw e refl
  | inr e ↦ elim (cases_Bool (is_setting l)) [
    | inl s ↦ rw (e, s) refl
    | inr s ↦ elim (cases_Bool (is_clock l)) [ inl k ↦ rw (e, s, k) refl | inr k ↦ rw (e, s, k) refl ]
  ]
]

other-body : (name : Option (List ℕ)) (ls : List (List ℕ)) → list_all is_other (body_classes name ls) ≡ true
other-body name [] = refl
other-body None (l ∷ ls) = elim (cases_Bool (opens_block l ls)) [
  | inl e ↦ rw e (other-body (Some (block_name l)) ls)
  | inr e ↦ rw e (and_from (is_other (line_class l)) (list_all is_other (body_classes None ls)) (other-line l) (other-body None ls))
]
other-body (Some name) (l ∷ ls) = elim (cases_Bool (ends_block name l)) [
  | inl e ↦ rw e (other-body None ls)
  | inr e ↦ rw e (other-body (Some name) ls)
]

other-drawer : (ls : List (List ℕ)) → list_all is_other (drawer_classes ls) ≡ true
other-drawer [] = refl
other-drawer (l ∷ ls) = elim (cases_Bool (is_drawer_end l)) [ inl e ↦ rw e (other-body None ls) | inr e ↦ rw e (other-drawer ls) ]

pub other-below : (ls : List (List ℕ)) → list_all is_other (classes_below ls) ≡ true
other-below [] = refl
other-below (l ∷ ls) = elim (cases_Bool (is_drawer_open l && closes_drawer ls)) [ inl e ↦ rw e (other-drawer ls) | inr e ↦ rw e (other-body None (l ∷ ls)) ]

pub other-front : (ls : List (List ℕ)) → list_all is_other (front_classes ls) ≡ true
other-front [] = refl
other-front (l ∷ ls) = elim (cases_Bool (is_leading l)) [
  | inl e ↦ rw e (and_from (is_other (line_class l)) (list_all is_other (front_classes ls)) (other-line l) (other-front ls))
  | inr e ↦ rw e (other-below (l ∷ ls))
]

-- such a line gives no text, and leaves head and planning as they are
same_after : (settings : FileSettings) (head : Option Head) (planning : Option WhatIsPlanned) (at : ℕ) (c : Class) (l : List ℕ) → is_other c ≡ true →
    (text_of c l ≡ []) × (head_after settings head c l ≡ head) × (planning_after planning at c l ≡ planning)
same_after settings head planning at Heading l h = absurd cc
same_after settings head planning at Planning l h = absurd cc
same_after settings head planning at DrawerOpen l h = (refl, refl, refl)
same_after settings head planning at Node l h = (refl, refl, refl)
same_after settings head planning at DrawerEnd l h = (refl, refl, refl)
same_after settings head planning at Clock l h = (refl, refl, refl)
same_after settings head planning at Setting l h = (refl, refl, refl)
same_after settings head planning at Comment l h = (refl, refl, refl)
same_after settings head planning at BlockOpen l h = (refl, refl, refl)
same_after settings head planning at Verbatim l h = (refl, refl, refl)
same_after settings head planning at BlockEnd l h = (refl, refl, refl)
same_after settings head planning at Plain l h = (refl, refl, refl)

-- and so do all such lines
pub no_text : (settings : FileSettings) (at : ℕ) (ls : List (List ℕ)) (cs : List Class) → list_all is_other cs ≡ true → flat_map (λ (l : PlacedLine). text_of l.class l.bytes) (placed at ls cs) ≡ []
no_text settings at [] cs h = refl
no_text settings at (l ∷ ls) [] h = refl
no_text settings at (l ∷ ls) (c ∷ cs) h =
    let both = and_parts (is_other c) (list_all is_other cs) h in
    rw ((same_after settings None None at c l both.0).0, no_text settings (at + length l) ls cs both.1) refl

pub same_head : (settings : FileSettings) (head : Option Head) (at : ℕ) (ls : List (List ℕ)) (cs : List Class) → list_all is_other cs ≡ true → head_from settings head (placed at ls cs) ≡ head
same_head settings head at [] cs h = refl
same_head settings head at (l ∷ ls) [] h = refl
same_head settings head at (l ∷ ls) (c ∷ cs) h =
    let both = and_parts (is_other c) (list_all is_other cs) h in
    ap (λ o. head_from settings o (placed (at + length l) ls cs)) (same_after settings head None at c l both.0).1 ∙ same_head settings head (at + length l) ls cs both.1

pub same_planning : (settings : FileSettings) (planning : Option WhatIsPlanned) (at : ℕ) (ls : List (List ℕ)) (cs : List Class) → list_all is_other cs ≡ true → planning_from planning (placed at ls cs) ≡ planning
same_planning settings planning at [] cs h = refl
same_planning settings planning at (l ∷ ls) [] h = refl
same_planning settings planning at (l ∷ ls) (c ∷ cs) h =
    let both = and_parts (is_other c) (list_all is_other cs) h in
    ap (λ o. planning_from o (placed (at + length l) ls cs)) (same_after settings None planning at c l both.0).2 ∙ same_planning settings planning (at + length l) ls cs both.1
