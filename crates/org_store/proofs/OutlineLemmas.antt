-- The entries of sections that were read.
use Rattle.std.proofs.Common.{◌≡◌, ◌∙◌, ℕ, List, [], ◌∷◌, cond, map, refl, ap, arith}
use Rattle.std.specs.List.{count_by}
use Rattle.std.proofs.lemmas.List.Sums.{sum_by-cons}
use Rattle.org_class.specs.Sections.{sections}
use Rattle.org_entry.specs.Entry.{entry_of}
use Rattle.org_store.specs.File.{read_section, read_sections}
use Rattle.org_store.specs.Outline.{file_entries, file_settings}
use Rattle.org_store.specs.Sections.{SectionView, entries_in, is_pending}
use Rattle.org_settings.specs.Settings.{FileSettings}

entries_read : (settings : FileSettings) (ss : List (List ℕ)) → entries_in (map (read_section settings) ss) ≡ map (entry_of settings) ss
entries_read settings [] = refl
entries_read settings (s ∷ ss) = ap (λ es. entry_of settings s ∷ es) (entries_read settings ss)

-- none of the sections that were read is pending
pub none_pending : (settings : FileSettings) (ss : List (List ℕ)) → count_by is_pending (map (read_section settings) ss) ≡ 0
none_pending settings [] = refl
none_pending settings (s ∷ ss) =
    let own : ◌≡◌ {A = ℕ} (cond (is_pending (read_section settings s)) 1 0) 0 = refl in
    omega (arith, sum_by-cons (λ (x : SectionView). cond (is_pending x) 1 0) (read_section settings s) (map (read_section settings) ss), own, none_pending settings ss)

-- those of all sections are the file's
pub entries_are : (t : List ℕ) (list : List SectionView) → list ≡ read_sections (file_settings t) t → entries_in list ≡ file_entries t
entries_are t list is = ap entries_in is ∙ entries_read (file_settings t) (sections t)
