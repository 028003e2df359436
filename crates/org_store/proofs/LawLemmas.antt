-- What a change leaves.
use Rattle.std.proofs.Common.{◌≡◌, ◌∙◌, ℕ, List, [], ◌∷◌, ap₂, map, refl}
use Rattle.org_class.proofs.Views.{keeps_views}
use Rattle.org_class.specs.Sections.{sections}
use Rattle.org_entry.specs.Entry.{entry_of}
use Rattle.org_settings.specs.Settings.{FileSettings}
use Rattle.org_store.proofs.ChangedSettingsLemmas.{says_by_keywords}
use Rattle.org_store.specs.Laws.{KeepsUntouchedEntries}
use Rattle.org_store.specs.Outline.{file_settings}
use Rattle.org_text.specs.Replace.{replace}

-- what sections say by settings with the same keywords
said_alike : (a b : FileSettings) (sections : List (List ℕ)) → a.keywords ≡ b.keywords → map (entry_of a) sections ≡ map (entry_of b) sections
said_alike a b [] same = refl
said_alike a b (s ∷ sections) same = ap₂ (λ e es. e ∷ es) (says_by_keywords a b s same) (said_alike a b sections same)

pub change_keeps_untouched_entries : KeepsUntouchedEntries
change_keeps_untouched_entries t ins at del within alike =
    said_alike (file_settings (replace t at del ins)) (file_settings t) (sections (replace t at del ins)) alike.keywords ∙ keeps_views (entry_of (file_settings t)) t ins at del within
