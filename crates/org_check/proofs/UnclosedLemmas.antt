-- Lines of text that say that a block opens.
use Rattle.std.proofs.Common.{◌≡◌, ◌≢◌, ℕ, suc, ◌+◌, inl, inr, List, [], ◌∷◌, length, refl, sym, ap, ◌∙◌, arith}
use Rattle.std.specs.Prelude.{true, false, not, ◌&&◌, ◌==◌, if◌then◌else◌, Option, Some, None, take_while, codes, drop}
use Rattle.std.specs.List.{list_all, list_any, prefix_len}
use Rattle.std.proofs.lemmas.Bool.{cases_Bool, and_cases, and_parts, ne_eqb, or_cases}
use Rattle.org_base.specs.Words.{is_blank, is_gap, is_letter}
use Rattle.org_class.specs.Blocks.{begins_with, block_name, body_classes, ends_block, opens_block}
use Rattle.org_class.specs.Classes.{classes, classes_under_heading, front_classes, is_leading}
use Rattle.org_class.specs.Drawers.{classes_below, closes_drawer, drawer_classes, is_drawer_end, is_drawer_open}
use Rattle.org_class.specs.Heading.{begins_heading}
use Rattle.org_class.specs.LineClass.{is_comment, line_class}
use Rattle.org_class.specs.declared.class.Class.{Class}
use Rattle.org_class.specs.declared.class.Class.TheVariants as class
use Rattle.org_stamp.specs.Pair.{is_planning}
use Rattle.org_check.specs.Marks.{is_text}
use Rattle.org_check.specs.Unclosed.{NoneEnds}

-- a line that isn't text says nothing of blocks, whatever stands after it
passed : (l : List ℕ) (ls : List (List ℕ)) (c : Class) (cs : List Class) → is_text c ≡ false → NoneEnds ls cs → NoneEnds (l ∷ ls) (c ∷ cs)
passed l ls c cs other rest = ((λ text some. absurd (let never : true ≡ false = sym text ∙ other in cc)), rest)

named : (name : List ℕ) → name ≢ [] → not (length name == 0) ≡ true
named [] some = absurd (some refl)
named (b ∷ bs) some = ap not (ne_eqb (length (b ∷ bs)) 0 (λ e. absurd (omega (arith, e))))

-- where no block opens, none of the later lines ends it
none_ends : (l : List ℕ) (ls : List (List ℕ)) → opens_block l ls ≡ false → block_name l ≢ [] → list_any (ends_block (block_name l)) ls ≡ false
none_ends l ls closed some =
    elim (and_cases (not (length (block_name l) == 0)) (list_any (ends_block (block_name l)) ls) closed) [
      | inl unnamed ↦ absurd (let yes = named (block_name l) some in let never : true ≡ false = sym yes ∙ unnamed in cc)
      | inr none ↦ none
    ]

in_body : (name : Option (List ℕ)) (ls : List (List ℕ)) → NoneEnds ls (body_classes name ls)
in_body name [] = tt
in_body None (l ∷ ls) =
    elim (cases_Bool (opens_block l ls)) [
      | inl opens ↦ rw opens (passed l ls class.BlockOpen (body_classes (Some (block_name l)) ls) refl (in_body (Some (block_name l)) ls))
      | inr closed ↦ rw closed ((λ text some. none_ends l ls closed some), in_body None ls)
    ]
in_body (Some name) (l ∷ ls) =
    elim (cases_Bool (ends_block name l)) [
      | inl ends ↦ rw ends (passed l ls class.BlockEnd (body_classes None ls) refl (in_body None ls))
      | inr goes_on ↦ rw goes_on (passed l ls class.Verbatim (body_classes (Some name) ls) refl (in_body (Some name) ls))
    ]

in_drawer : (ls : List (List ℕ)) → NoneEnds ls (drawer_classes ls)
in_drawer [] = tt
in_drawer (l ∷ ls) =
    elim (cases_Bool (is_drawer_end l)) [
      | inl ends ↦ rw ends (passed l ls class.DrawerEnd (body_classes None ls) refl (in_body None ls))
      | inr goes_on ↦ rw goes_on (passed l ls class.Node (drawer_classes ls) refl (in_drawer ls))
    ]

below : (ls : List (List ℕ)) → NoneEnds ls (classes_below ls)
below [] = tt
below (l ∷ ls) =
    elim (cases_Bool (is_drawer_open l && closes_drawer ls)) [
      | inl opens ↦ rw opens (passed l ls class.DrawerOpen (drawer_classes ls) refl (in_drawer ls))
      | inr other ↦ rw other (in_body None (l ∷ ls))
    ]

blank_trim : (l : List ℕ) → list_all is_gap l ≡ true → drop (prefix_len is_gap l) l ≡ []
blank_trim [] e = refl
blank_trim (b ∷ bs) e =
    let parts = and_parts (is_gap b) (list_all is_gap bs) e in
    let more : 1 + prefix_len is_gap bs ≡ suc (prefix_len is_gap bs) = omega arith in
    rw parts.0 (rw more (blank_trim bs parts.1))

-- a blank line opens no block
blank_unnamed : (l : List ℕ) → is_blank l ≡ true → block_name l ≡ []
blank_unnamed l e = ap (λ t. let w = take_while is_letter t in if begins_with w (codes "#+BEGIN_") then drop 8 w else []) (blank_trim l e)

comment_is : (l : List ℕ) → is_comment l ≡ true → is_text (line_class l) ≡ false
comment_is l e = rw e refl

-- neither a comment nor a blank line is a line of text that says that a block opens
leading_unnamed : (l : List ℕ) → is_leading l ≡ true → is_text (line_class l) ≡ true → block_name l ≢ [] → ⊥
leading_unnamed l leads text some =
    elim (or_cases (is_comment l) (is_blank l) leads) [
      | inl comment ↦ let never : true ≡ false = sym text ∙ comment_is l comment in cc
      | inr blank ↦ some (blank_unnamed l blank)
    ]

under_heading : (ls : List (List ℕ)) → NoneEnds ls (classes_under_heading ls)
under_heading [] = tt
under_heading (l ∷ ls) =
    elim (cases_Bool (is_planning l)) [
      | inl is ↦ rw is (passed l ls class.Planning (classes_below ls) refl (below ls))
      | inr other ↦ rw other (below (l ∷ ls))
    ]

front : (ls : List (List ℕ)) → NoneEnds ls (front_classes ls)
front [] = tt
front (l ∷ ls) =
    elim (cases_Bool (is_leading l)) [
      | inl leads ↦ rw leads ((λ text some. absurd (leading_unnamed l leads text some)), front ls)
      | inr other ↦ rw other (below (l ∷ ls))
    ]

pub unclosed_blocks_dont_end : (section : List (List ℕ)) → NoneEnds section (classes section)
unclosed_blocks_dont_end [] = tt
unclosed_blocks_dont_end (l ∷ ls) =
    elim (cases_Bool (begins_heading l)) [
      | inl is ↦ rw is (passed l ls class.Heading (classes_under_heading ls) refl (under_heading ls))
      | inr other ↦ rw other (front (l ∷ ls))
    ]
