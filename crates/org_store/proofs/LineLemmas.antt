-- The setting lines of the sections from one place up to another.
use Rattle.std.proofs.Common.{◌≡◌, ◌∙◌, ℕ, zero, suc, ◌+◌, ◌-◌, ◌<◌, ◌≤◌, List, [], ◌∷◌, ◌++◌, length, take, drop, get_or, refl, sym, ap, arith, append-nil}
use Rattle.std.specs.Prelude.{Option, Some, None, Result, Ok, Err, OnOk}
use Rattle.std.specs.List.{flat_map, position_or_len}
use Rattle.std.proofs.Math.Seq.{take-add}
use Rattle.std.proofs.lemmas.Grind.{flat_map-append}
use Rattle.std.proofs.lemmas.List.{drop-drop, take_all}
use Rattle.org_class.specs.Classes.{section_settings, setting_lines}
use Rattle.org_class.specs.Sections.{sections}
use Rattle.org_store.specs.Begun.{section_of}
use Rattle.org_store.specs.File.{AreOf, lines_between}
use Rattle.org_store.specs.Sections.{IsFirstSetting, SectionView, has_setting}
use Rattle.org_store.proofs.FlagLemmas.{dropped, quiet_front}
use Rattle.org_store.proofs.KeptLemmas.{count_of}

-- up to a place, and from there on
split : (ss : List (List ℕ)) (a b c : ℕ) → a ≤ b → b ≤ c →
    flat_map section_settings (take (c - a) (drop a ss)) ≡ flat_map section_settings (take (b - a) (drop a ss)) ++ flat_map section_settings (take (c - b) (drop b ss))
split ss a b c low high =
    let sum : c - a ≡ (b - a) + (c - b) = omega arith in
    let there : a + (b - a) ≡ b = omega arith in
    ap (λ n. flat_map section_settings (take n (drop a ss))) sum
    ∙ (ap (flat_map section_settings) (take-add (b - a) (c - b) (drop a ss) ∙ ap (λ xs. take (b - a) (drop a ss) ++ take (c - b) xs) (drop-drop (b - a) a ss ∙ ap (λ n. drop n ss) there))
    ∙ flat_map-append section_settings (take (b - a) (drop a ss)) (take (c - b) (drop b ss)))

first_of : {X : Type 0} (xs : List X) (i : ℕ) (d : X) → i < length xs → take 1 (drop i xs) ≡ get_or xs i d ∷ []
first_of [] i d lt = absurd (omega arith)
first_of (x ∷ xs) zero d lt = refl
first_of (x ∷ xs) (suc i) d lt = first_of xs i d (omega arith)

-- one section's lines
one : (ss : List (List ℕ)) (i : ℕ) → i < length ss → flat_map section_settings (take (i + 1 - i) (drop i ss)) ≡ section_settings (get_or ss i [])
one ss i lt =
    let step : i + 1 - i ≡ 1 = omega arith in
    ap (λ n. flat_map section_settings (take n (drop i ss))) step ∙ (ap (flat_map section_settings) (first_of ss i [] lt) ∙ append-nil (section_settings (get_or ss i [])))

-- sections without any add nothing
quiet : (t : List ℕ) (list : List SectionView) (from to : ℕ) → AreOf t list → to - from ≤ position_or_len has_setting (drop from list) → lines_between t from to ≡ []
quiet t list from to e le = quiet_front (drop from (sections t)) (drop from list) (to - from) (dropped t list from e) le

-- the lines of the next section that has any
pub more_lines : (t : List ℕ) (list : List SectionView) (from next to place : ℕ) → AreOf t list → from ≤ next → to ≤ length list → IsFirstSetting list next to (Some place) →
    lines_between t from (place + 1) ≡ lines_between t from next ++ section_settings (section_of t place)
more_lines t list from next to place e low within first =
    let ss = sections t in
    let inside : place < length ss = omega (arith, first.1, within, count_of t list e) in
    let none : lines_between t next place ≡ [] = quiet t list next place e (omega (arith, first.0)) in
    split ss from place (place + 1) (omega (arith, first.0, low)) (omega arith)
    ∙ ((λ i. (split ss from next place low (omega (arith, first.0)) ∙ (ap (λ xs. lines_between t from next ++ xs) none ∙ append-nil (lines_between t from next))) i ++ one ss place inside i))

-- and where none has any
pub last_lines : (t : List ℕ) (list : List SectionView) (from next to : ℕ) → AreOf t list → from ≤ next → next ≤ to → to - next ≤ position_or_len has_setting (drop next list) → lines_between t from next ≡ lines_between t from to
last_lines t list from next to e low high none =
    sym (split (sections t) from next to low high ∙ (ap (λ xs. lines_between t from next ++ xs) (quiet t list next to e none) ∙ append-nil (lines_between t from next)))

pub none_first : (list : List SectionView) (from to : ℕ) (o : Option ℕ) → IsFirstSetting list from to o → ((i : ℕ) → o ≡ Some i → ⊥) → to - from ≤ position_or_len has_setting (drop from list)
none_first list from to None h none = h
none_first list from to (Some i) h none = absurd (none i refl)

-- those of all sections
pub all_lines : (t : List ℕ) (list : List SectionView) (n : ℕ) → AreOf t list → n ≡ length list → lines_between t 0 n ≡ setting_lines t
all_lines t list n e is =
    let all : n - 0 ≡ n = omega arith in
    ap (flat_map section_settings) (ap (λ m. take m (sections t)) all ∙ take_all n (sections t) (omega (arith, is, count_of t list e)))

pub if_ok : {A E P Q : Type 0} (r : Result A E) → OnOk r P → (P → Q) → OnOk r Q
if_ok (Ok x) p f = f p
if_ok (Err e) p f = tt
