-- Sections that are read.
use Rattle.std.proofs.Common.{◌≡◌, ◌∙◌, inl, inr, ℕ, zero, suc, ◌+◌, ◌<◌, Bool, true, false, not, cond, ltb, List, [], ◌∷◌, map, length, get_or, replicate, refl, sym, ap, subst, arith}
use Rattle.std.specs.List.{AllZip, splice, count_by, position_or_len}
use Rattle.std.proofs.lemmas.Bool.{cases_Bool, lt-ltb}
use Rattle.std.proofs.lemmas.List.{get_or-map, length-map}
use Rattle.std.proofs.lemmas.List.Sums.{sum_by-cons}
use Rattle.org_class.specs.Sections.{sections}
use Rattle.org_store.specs.File.{AllSay, AreOf, IsKept, Says, all_marked, bare, with_read, marked, read_section, read_sections}
use Rattle.org_store.specs.Outline.{file_settings}
use Rattle.org_store.specs.Sections.{SectionView, fresh_section, is_read, is_pending}
use Rattle.org_store.proofs.KeptLemmas.{bare_read, count_marked, count_of, first_marked, marks_read, map_splice, says_read, splice_same, zip_splice}
use Rattle.org_settings.specs.Settings.{FileSettings}

get_same : {X : Type 0} (xs : List X) (i : ℕ) (d e : X) → i < length xs → get_or xs i d ≡ get_or xs i e
get_same [] i d e lt = absurd (omega arith)
get_same (x ∷ xs) zero d e lt = refl
get_same (x ∷ xs) (suc i) d e lt = get_same xs i d e (omega arith)

-- one section more is read
pub are_one : (t : List ℕ) (list : List SectionView) (i : ℕ) (settings : FileSettings) → AreOf t list → i < length list → AreOf t (with_read settings t i list)
are_one t list i settings h lt =
    let ss = sections t in
    let s = get_or ss i [] in
    let k = read_section settings s in
    let inside : i < length ss = omega (arith, count_of t list h) in
    let there : fresh_section s ≡ get_or (map bare list) i (fresh_section s) =
    sym (ap (λ ks. get_or ks i (fresh_section s)) h ∙ get_or-map fresh_section ss i [] (fresh_section s) inside) in
    map_splice bare list i (i + 1) (k ∷ []) ∙ (splice_same (map bare list) i (fresh_section s) (omega (arith, length-map list bare)) there ∙ h)

pub say_one : (t : List ℕ) (list : List SectionView) (i : ℕ) (settings : FileSettings) → AreOf t list → AllSay settings t list → i < length list → AllSay settings t (with_read settings t i list)
say_one t list i settings h says lt =
    let ss = sections t in
    let s = get_or ss i [] in
    let k = read_section settings s in
    let inside : i < length ss = omega (arith, count_of t list h) in
    subst (λ xs. AllZip (Says settings) xs (splice list i (i + 1) (k ∷ []))) (splice_same ss i s inside (get_same ss i [] s inside))
    (zip_splice (Says settings) ss (s ∷ []) list (k ∷ []) i (i + 1) says (refl, tt))

pub kept_read : (t : List ℕ) (list : List SectionView) (i : ℕ) (settings : FileSettings) → IsKept t list settings → i < length list → IsKept t (with_read settings t i list) settings
kept_read t list i settings h lt =
    let says = subst (λ (x : FileSettings). AllSay x t list) (sym h.own) h.says in
    record {
      own = h.own;
      list_is = are_one t list i settings h.list_is lt;
      says = subst (λ (x : FileSettings). AllSay x t (with_read settings t i list)) h.own (say_one t list i settings h.list_is says lt);
    }

pub marks_one : (list : List SectionView) (i : ℕ) (settings : FileSettings) (s : List ℕ) → map is_read (splice list i (i + 1) (read_section settings s ∷ [])) ≡ marked i (map is_read list)
marks_one list i settings s = map_splice is_read list i (i + 1) (read_section settings s ∷ [])

-- all of them are
pub kept_all : (t : List ℕ) (list : List SectionView) (settings : FileSettings) → settings ≡ file_settings t → list ≡ read_sections (file_settings t) t → IsKept t list settings
kept_all t list settings own is = record {
  own = own;
  list_is = ap (map bare) is ∙ bare_read (file_settings t) (sections t);
  says = subst (AllSay (file_settings t) t) (sym is) (says_read (file_settings t) (sections t));
}

pub marks_all : (t : List ℕ) (was list : List SectionView) → AreOf t was → list ≡ read_sections (file_settings t) t → map is_read list ≡ replicate (length (map is_read was)) true
marks_all t was list h is =
    let count : length (sections t) ≡ length (map is_read was) = sym (count_of t was h) ∙ sym (length-map was is_read) in
    ap (map is_read) is ∙ (marks_read (file_settings t) (sections t) ∙ ap (λ n. replicate n true) count)

-- where one passes, some are counted
pub some_counted : {X : Type 0} (p : X → Bool) (xs : List X) → position_or_len p xs < length xs → 0 < count_by p xs
some_counted p [] lt = absurd (omega arith)
some_counted p (x ∷ xs) lt =
    let c = sum_by-cons (λ y. cond (p y) 1 0) x xs in
    elim (cases_Bool (p x)) [
      | inl e ↦ let one : ◌≡◌ {A = ℕ} (cond (p x) 1 0) 1 = rw e refl in omega (arith, c, one)
      | inr e ↦
          let none : ◌≡◌ {A = ℕ} (cond (p x) 1 0) 0 = rw e refl in
          let step : position_or_len p (x ∷ xs) ≡ 1 + position_or_len p xs = rw e refl in
          let rest = some_counted p xs (omega (arith, step)) in
          omega (arith, c, none, rest)
    ]

-- the first pending section and its mark
pub some_pending : (list : List SectionView) (i : ℕ) → (i ≡ 0 + position_or_len is_pending list) × (i < length list) → true ≡ ltb 0 (count_by not (map is_read list))
some_pending list i h =
    let some : 0 < count_by is_pending list = some_counted is_pending list (omega (arith, h.0, h.1)) in
    sym (lt-ltb 0 (count_by not (map is_read list)) (omega (arith, some, count_marked list)))

pub first_place : (list : List SectionView) (i : ℕ) → (i ≡ 0 + position_or_len is_pending list) × (i < length list) → i ≡ position_or_len not (map is_read list)
first_place list i h = let here : i ≡ position_or_len is_pending list = omega (arith, h.0) in here ∙ first_marked list

-- what was read stays read
pub marked_again : (marks : List Bool) (i : ℕ) → i < length marks → get_or marks i false ≡ true → marks ≡ marked i marks
marked_again marks i lt there = sym (splice_same marks i true lt (sym there ∙ get_same marks i false true lt))

-- where none is to be read, all are marked
pub all_again : (marks : List Bool) → count_by not marks ≡ 0 → marks ≡ all_marked marks
all_again [] none = refl
all_again (b ∷ marks) none =
    let count = sum_by-cons (λ (x : Bool). cond (not x) 1 0) b marks in
    elim (cases_Bool b) [
      | inl yes_is ↦
          let own : ◌≡◌ {A = ℕ} (cond (not b) 1 0) 0 = rw yes_is refl in
          let rest = all_again marks (omega (arith, count, own)) in
          λ i. yes_is i ∷ rest i
      | inr no_is ↦ absurd (let one : ◌≡◌ {A = ℕ} (cond (not b) 1 0) 1 = rw no_is refl in omega (arith, count, one))
    ]
