-- What is kept of a changed text.
use Rattle.std.proofs.Common.{◌≡◌, ◌∙◌, ℕ, ◌+◌, ◌≤◌, false, List, [], ◌∷◌, map, length, replicate, refl, sym, ap, subst}
use Rattle.std.specs.List.{AllZip, splice}
use Rattle.org_class.specs.Changes.{first_touched, touched_end, new_sections}
use Rattle.org_class.specs.Sections.{sections}
use Rattle.org_class.proofs.Touched.{keeps_untouched_sections}
use Rattle.org_class.proofs.Views.{keeps_views}
use Rattle.org_store.specs.File.{AreOf, IsKept, Says, bare, list_after}
use Rattle.org_store.specs.Outline.{file_settings}
use Rattle.org_store.specs.Sections.{SectionView, fresh_section, is_read}
use Rattle.org_settings.specs.Alike.{AnswerAlike}
use Rattle.org_store.proofs.ChangedSettingsLemmas.{say_alike}
use Rattle.org_store.proofs.KeptLemmas.{bare_fresh, map_splice, marks_fresh, says_fresh, zip_splice}
use Rattle.org_settings.specs.Settings.{FileSettings}
use Rattle.org_text.specs.Replace.{replace}

module _ (t ins : List ℕ) (list : List SectionView) (at del : ℕ) (inside : at + del ≤ length t) (kept : AreOf t list) where
  -- the list with the new sections is of the new text
  pub list_changed : AreOf (replace t at del ins) (list_after list t at del ins)
  list_changed =
      let f : ℕ = first_touched t at del ins in
      let e : ℕ = touched_end t at del in
      let fresh = new_sections t at del ins in
      map_splice bare list f e (map fresh_section fresh)
      ∙ ((λ i. splice (kept i) f e (bare_fresh fresh i))
      ∙ sym (keeps_views fresh_section t ins at del inside))

  -- and where the settings stay, what it says is right
  pub says_changed : (settings : FileSettings) → AllZip (Says settings) (sections t) list → AllZip (Says settings) (sections (replace t at del ins)) (list_after list t at del ins)
  says_changed settings says =
      let f : ℕ = first_touched t at del ins in
      let e : ℕ = touched_end t at del in
      let fresh = new_sections t at del ins in
      subst (λ ss. AllZip (Says settings) ss (list_after list t at del ins)) (sym (keeps_untouched_sections t ins at del inside))
      (zip_splice (Says settings) (sections t) fresh list (map fresh_section fresh) f e says (says_fresh settings fresh))

  pub marks_changed : map is_read (list_after list t at del ins) ≡ splice (map is_read list) (first_touched t at del ins) (touched_end t at del) (replicate (length (new_sections t at del ins)) false)
  marks_changed =
      let f : ℕ = first_touched t at del ins in
      let e : ℕ = touched_end t at del in
      let fresh = new_sections t at del ins in
      map_splice is_read list f e (map fresh_section fresh) ∙ ap (splice (map is_read list) f e) (marks_fresh fresh)

-- none of the sections was read
bare_twice : (list : List SectionView) → map bare (map bare list) ≡ map bare list
bare_twice [] = refl
bare_twice (k ∷ list) = ap (λ ks. bare k ∷ ks) (bare_twice list)

pub kept_bare : (t : List ℕ) (list : List SectionView) (settings : FileSettings) → AreOf t list → settings ≡ file_settings t → IsKept t (map bare list) settings
kept_bare t list settings kept own = record {
  own = own;
  list_is = bare_twice list ∙ kept;
  says = subst (AllZip (Says (file_settings t)) (sections t)) (sym kept) (says_fresh (file_settings t) (sections t));
}

pub marks_bare : (t : List ℕ) (list : List SectionView) → AreOf t list → map is_read (map bare list) ≡ replicate (length (sections t)) false
marks_bare t list kept = ap (map is_read) kept ∙ marks_fresh (sections t)

-- a file none of whose sections was read
pub kept_fresh : (t : List ℕ) (settings : FileSettings) → settings ≡ file_settings t → IsKept t (map fresh_section (sections t)) settings
kept_fresh t settings own = record { own = own; list_is = bare_fresh (sections t); says = says_fresh (file_settings t) (sections t) }

-- a file whose settings stay, as nothing that is asked of them tells them apart
pub kept_changed : (t ins : List ℕ) (list : List SectionView) (at del : ℕ) (old new : FileSettings) → at + del ≤ length t → IsKept t list old →
    new ≡ file_settings (replace t at del ins) → AnswerAlike (file_settings (replace t at del ins)) (file_settings t) → IsKept (replace t at del ins) (list_after list t at del ins) new
kept_changed t ins list at del old new inside h own alike = record {
  own = own;
  list_is = list_changed t ins list at del inside h.list_is;
  says = say_alike (file_settings t) (file_settings (replace t at del ins)) (sections (replace t at del ins)) (list_after list t at del ins) (sym alike.keywords)
      (says_changed t ins list at del inside h.list_is (file_settings t) h.says);
}
