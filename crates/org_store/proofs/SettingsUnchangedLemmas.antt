-- Setting lines stay where the new sections have those of the touched ones.
use Rattle.std.proofs.Common.{◌≡◌, ◌∙◌, ℕ, ◌+◌, ◌-◌, ◌≤◌, cond, Bool, List, [], ◌∷◌, ◌++◌, length, take, drop, refl, sym, ap, arith, inl, inr, length-append}
use Rattle.std.specs.Prelude.{Some, None}
use Rattle.std.specs.List.{count_by, flat_map, position_or_len}
use Rattle.std.proofs.lemmas.Bool.{cases_Bool}
use Rattle.std.proofs.lemmas.Grind.{flat_map-append}
use Rattle.std.proofs.lemmas.List.{drop-drop, drop_at, length-take-le, length-drop, take-append-drop, take_at}
use Rattle.std.proofs.lemmas.List.Sums.{sum_by-cons}
use Rattle.org_class.specs.Changes.{first_touched, new_sections, touched_end}
use Rattle.org_class.specs.Classes.{section_settings, setting_lines}
use Rattle.org_class.specs.Sections.{sections}
use Rattle.org_class.proofs.Touched.{keeps_untouched_sections}
use Rattle.org_store.specs.File.{AreOf, lines_between}
use Rattle.org_store.specs.Sections.{SectionView, has_setting}
use Rattle.org_store.proofs.KeptLemmas.{count_of}
use Rattle.org_sequence.specs.Parts.{IsFirstPassing}
use Rattle.org_text.specs.Replace.{replace}

none_passes : {X : Type 0} (p : X → Bool) (xs : List X) → count_by p xs ≡ 0 → position_or_len p xs ≡ length xs
none_passes p [] none = refl
none_passes p (x ∷ xs) none =
    let c = sum_by-cons (λ y. cond (p y) 1 0) x xs in
    elim (cases_Bool (p x)) [
      | inl e ↦ absurd (let z : ◌≡◌ {A = ℕ} (cond (p x) 1 0) 1 = rw e refl in omega (arith, c, z))
      | inr e ↦
          let z : ◌≡◌ {A = ℕ} (cond (p x) 1 0) 0 = rw e refl in
          let step : position_or_len p (x ∷ xs) ≡ 1 + position_or_len p xs = rw e refl in
          omega (arith, step, none_passes p xs (omega (arith, c, z)))
    ]

-- no section up to a place has setting lines: the first that has any stands after
pub far_first : (list : List SectionView) (from to i : ℕ) → IsFirstPassing has_setting list from (Some i) → to ≤ i → to - from ≤ position_or_len has_setting (drop from list)
far_first list from to i first past = omega (arith, first.0, past)

pub far_none : (list : List SectionView) (from to : ℕ) → IsFirstPassing has_setting list from None → to ≤ length list → to - from ≤ position_or_len has_setting (drop from list)
far_none list from to none within = omega (arith, none_passes has_setting (drop from list) none, length-drop from list)

-- the setting lines of a list with a part in its midst
around : (front mid rest : List (List ℕ)) → flat_map section_settings (front ++ (mid ++ rest)) ≡ flat_map section_settings front ++ (flat_map section_settings mid ++ flat_map section_settings rest)
around front mid rest = flat_map-append section_settings front (mid ++ rest) ∙ ap (λ xs. flat_map section_settings front ++ xs) (flat_map-append section_settings mid rest)

module _ (t new ins : List ℕ) (at del first end : ℕ) (old_list new_list : List SectionView) (old_kept : AreOf t old_list) (new_kept : AreOf new new_list) (inside : at + del ≤ length t) (changed : new ≡ replace t at del ins)
    (first_is : first ≡ first_touched t at del ins) (end_is : end ≡ touched_end t at del) (order : first ≤ end) (within : end ≤ length old_list) where
  all : sections new ≡ take first (sections t) ++ (new_sections t at del ins ++ drop end (sections t))
  all =
      ap sections changed ∙ (keeps_untouched_sections t ins at del inside
      ∙ sym (λ i. take (first_is i) (sections t) ++ (new_sections t at del ins ++ drop (end_is i) (sections t))))

  front : length (take first (sections t)) ≡ first
  front = length-take-le first (sections t) (omega (arith, order, within, count_of t old_list old_kept))

  -- how many sections there are after the change
  pub count : length new_list ≡ first + (length (new_sections t at del ins) + (length old_list - end))
  count =
      let fresh = new_sections t at del ins in
      let rest = drop end (sections t) in
      omega (arith, count_of new new_list new_kept, count_of t old_list old_kept, ap length all, front, length-append (take first (sections t)) (fresh ++ rest), length-append fresh rest, length-drop end (sections t))

  -- the new sections stand where the touched ones stood
  pub new_lines : (last : ℕ) → last ≡ first + length (new_sections t at del ins) → lines_between new first last ≡ flat_map section_settings (new_sections t at del ins)
  new_lines last last_is =
      let fresh = new_sections t at del ins in
      let rest = drop end (sections t) in
      let count : last - first ≡ length fresh = omega (arith, last_is) in
      ap (flat_map section_settings)
      (ap (λ xs. take (last - first) (drop first xs)) all ∙ (ap (take (last - first)) (drop_at (take first (sections t)) (fresh ++ rest) first front) ∙ take_at fresh rest (last - first) (sym count)))

  pub lines_stay : flat_map section_settings (new_sections t at del ins) ≡ lines_between t first end → setting_lines new ≡ setting_lines t
  lines_stay same =
      let ss = sections t in
      let fresh = new_sections t at del ins in
      let rest = drop end ss in
      let step : first + (end - first) ≡ end = omega (arith, order) in
      let old = take (end - first) (drop first ss) in
      let parts : ss ≡ take first ss ++ (old ++ rest) =
      sym (take-append-drop first ss) ∙ ap (λ xs. take first ss ++ xs) (sym (take-append-drop (end - first) (drop first ss)) ∙ ap (λ xs. old ++ xs) (drop-drop (end - first) first ss ∙ ap (λ n. drop n ss) step)) in
      ap (flat_map section_settings) all
      ∙ (around (take first ss) fresh rest
      ∙ (ap (λ xs. flat_map section_settings (take first ss) ++ (xs ++ flat_map section_settings rest)) same
      ∙ sym (ap (flat_map section_settings) parts ∙ around (take first ss) old rest)))
