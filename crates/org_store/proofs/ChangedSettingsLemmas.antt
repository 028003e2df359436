-- Whether settings were renewed, and that what sections say depends on keywords alone.
use Rattle.std.proofs.Common.{◌≡◌, ◌∙◌, List, [], ◌∷◌, ℕ, ap, refl, subst}
use Rattle.std.specs.Prelude.{IfSome, Option, Some, None}
use Rattle.std.specs.List.{AllZip}
use Rattle.std.specs.declared.alloc.Global.{Global}
use Rattle.std.specs.declared.rc.Rc.{Rc}
use Rattle.org_base.specs.Properties.{value_in}
use Rattle.org_class.specs.Classes.{setting_lines}
use Rattle.org_entry.specs.Entry.{entry_of}
use Rattle.org_entry.specs.declared.entry.Entry.{Entry}
use Rattle.org_settings.proofs.AlikeLemmas.{alike_say_the_same}
use Rattle.org_settings.specs.Alike.{AnswerAlike}
use Rattle.org_settings.specs.Settings.{FileSettings, settings_with}
use Rattle.org_settings.specs.declared.settings.Settings.{Settings}
use Rattle.org_store.specs.ChangedSettings.{AreNewSettings}
use Rattle.org_store.specs.File.{Says}
use Rattle.org_store.specs.Outline.{file_settings}
use Rattle.org_store.specs.Sections.{SectionView}

pub same_settings : (old new : List ℕ) (o : Option (Rc Settings Global)) → AreNewSettings old new o → ((s : Rc Settings Global) → o ≡ Some s → ⊥) → file_settings new ≡ file_settings old
same_settings old new None h none = h
same_settings old new (Some s) h none = absurd (none s refl)

pub new_settings : (old new : List ℕ) (o : Option (Rc Settings Global)) (s : Rc Settings Global) → AreNewSettings old new o → o ≡ Some s → s.value ≡ file_settings new
new_settings old new o s h is = subst (λ x. AreNewSettings old new x) is h

-- settings of files answer as themselves
pub as_itself : (old new : List ℕ) → file_settings new ≡ file_settings old → AnswerAlike (file_settings new) (file_settings old)
as_itself old new same = (alike_say_the_same (setting_lines new) (setting_lines old)).1 (record {
  keywords = ap (λ (s : FileSettings). s.keywords) same;
  file_tags = ap (λ (s : FileSettings). s.file_tags) same;
  category = ap (λ (s : FileSettings). s.category) same;
  default_priority = ap (λ (s : FileSettings). s.default_priority) same;
  values = λ name. ap (λ (s : FileSettings). value_in s.properties name) same;
})

-- of a file's settings a section says what the keywords say
pub says_by_keywords : (a b : FileSettings) (section : List ℕ) → a.keywords ≡ b.keywords → entry_of a section ≡ entry_of b section
says_by_keywords a b section same = ap (λ ks. entry_of (settings_with ks b.file_tags b.category b.properties b.default_priority) section) same

said : (a b : FileSettings) (section : List ℕ) (o : Option Entry) → a.keywords ≡ b.keywords → IfSome o (λ e. e ≡ entry_of a section) → IfSome o (λ e. e ≡ entry_of b section)
said a b section None same says = tt
said a b section (Some e) same says = says ∙ says_by_keywords a b section same

pub say_alike : (a b : FileSettings) (sections : List (List ℕ)) (list : List SectionView) → a.keywords ≡ b.keywords → AllZip (Says a) sections list → AllZip (Says b) sections list
say_alike a b [] [] same all = all
say_alike a b [] (k ∷ list) same all = all
say_alike a b (s ∷ sections) [] same all = all
say_alike a b (s ∷ sections) (k ∷ list) same all = (said a b s k.entry same all.0, say_alike a b sections list same all.1)
