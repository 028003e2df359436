-- Which headings are open.
use Rattle.std.proofs.Common.{◌≡◌, ℕ, List, Bool, true, false, not, refl}
use Rattle.std.specs.Prelude.{Option, None, Some}
use Rattle.std.specs.Option.{option_map_or}
use Rattle.org_settings.specs.Keywords.{keyword_place, keyword_done}
use Rattle.org_settings.specs.Settings.{FileSettings}
use Rattle.org_agenda.specs.Headings.{is_finished, keyword_in}
use Rattle.org_agenda.specs.Rules.{OwnersAreOpen}

abbrev Has : FileSettings → Option (List ℕ) → Type 0
Has settings o = (word : List ℕ) × (place : ℕ) × (o ≡ Some word) × (keyword_place settings.keywords word ≡ Some place) × (keyword_done settings.keywords place ≡ true)

placed : (settings : FileSettings) (word : List ℕ) (o : Option ℕ) → keyword_place settings.keywords word ≡ o → option_map_or (keyword_done settings.keywords) o false ≡ true → Has settings (Some word)
placed settings word None e h = absurd cc
placed settings word (Some place) e h = (word, place, refl, e, h)

finished : (settings : FileSettings) (o : Option (List ℕ)) → is_finished settings o ≡ true → Has settings o
finished settings None h = absurd cc
finished settings (Some word) h = placed settings word (keyword_place settings.keywords word) refl h

finished_back : (settings : FileSettings) (o : Option (List ℕ)) → Has settings o → is_finished settings o ≡ true
finished_back settings o h = rw (h.2, h.3) h.4

no_not : (b : Bool) → not b ≡ false → b ≡ true
no_not true h = refl
no_not false h = absurd cc

not_yes : (b : Bool) → b ≡ true → not b ≡ false
not_yes b h = rw h refl

pub opens : OwnersAreOpen
opens scope file i e head = (
  λ h. finished scope.settings (keyword_in e.text head) (no_not _ h),
  λ p. not_yes _ (finished_back scope.settings (keyword_in e.text head) p),
)
