-- The words that count where a file says options too: those of the command line, and of the file those options that it doesn't
-- name (profile).
-- Characters by their codes: 45 minus, 61 equals sign.
use Rattle.std.specs.Prelude.{◌≡◌, ℕ, ◌++◌, Bool, not, if◌then◌else◌, List, [], ◌∷◌, OnOk, IfOk, Result, String, Vec, codes, map, string_bytes}
use Rattle.orgq_files.specs.declared.setting.Choice.{Choice}
use Rattle.orgq_files.specs.declared.setting.Choice.TheVariants.{Background, Color, Columns, File, Inbox, Inherit, Keywords, LogDone, LogIntoDrawer, LogRepeat, NextAction, Profile, Project, Words}
use Rattle.orgq_files.specs.declared.setting.NamedChoices.{NamedChoices}
use Rattle.orgq_files.specs.declared.setting.Setting.{Setting}

abbrev pub choice_name : Choice → List ℕ
choice_name Background = codes "background"
choice_name Color = codes "color"
choice_name Columns = codes "columns"
choice_name File = codes "file"
choice_name Inbox = codes "inbox"
choice_name Inherit = codes "inherit"
choice_name Keywords = codes "keywords"
choice_name LogDone = codes "log-done"
choice_name LogIntoDrawer = codes "log-into-drawer"
choice_name LogRepeat = codes "log-repeat"
choice_name NextAction = codes "next-action"
choice_name Profile = codes "profile"
choice_name Project = codes "project"
choice_name Words = codes "words"

-- the command line or the environment names an option
abbrev pub is_named : NamedChoices → Choice → Bool
is_named named Background = named.background
is_named named Color = named.color
is_named named Columns = named.columns
is_named named File = named.file
is_named named Inbox = named.inbox
is_named named Inherit = named.inherit
is_named named Keywords = named.keywords
is_named named LogDone = named.log_done
is_named named LogIntoDrawer = named.log_into_drawer
is_named named LogRepeat = named.log_repeat
is_named named NextAction = named.next_action
is_named named Profile = named.profile
is_named named Project = named.project
is_named named Words = named.words

-- an option of the file counts where it isn't named before
abbrev pub counts : NamedChoices → Choice → Bool
counts named choice = not (is_named named choice)

-- an option and its value as a word
abbrev pub option_word : Choice → List ℕ → List ℕ
option_word choice value = codes "--" ++ choice_name choice ++ 61 ∷ value

-- a setting by its text
abbrev pub SettingText : Type 0
SettingText = Choice × List ℕ

abbrev pub setting_text : Setting → SettingText
setting_text setting = (setting.choice, string_bytes setting.value)

-- the words of the settings whose options aren't named
abbrev pub setting_words : NamedChoices → List SettingText → List (List ℕ)
setting_words named [] = []
setting_words named (setting ∷ settings) =
    if counts named setting.0 then option_word setting.0 setting.1 ∷ setting_words named settings else setting_words named settings

-- the words of a command line with them behind the first one, which names the program
abbrev pub words_with : NamedChoices → List SettingText → List (List ℕ) → List (List ℕ)
words_with named settings [] = []
words_with named settings (program ∷ words) = program ∷ (setting_words named settings ++ words)

-- the same of settings and of strings
abbrev pub own_words : NamedChoices → List Setting → List (List ℕ)
own_words named settings = setting_words named (map setting_text settings)

abbrev pub counted_words : {A : Type 0} → NamedChoices → List Setting → List (String A) → List (List ℕ)
counted_words named settings words = words_with named (map setting_text settings) (map string_bytes words)

-- these words, unless memory is refused
abbrev pub GivesWords : {A E : Type 0} → Result (Vec (String A) A) E → List (List ℕ) → Type 0
GivesWords result words = IfOk result (λ given. map string_bytes given.items ≡ words)

-- these words after others, unless memory is refused
abbrev pub AddsWords : {T A E : Type 0} → Result T E → Vec (String A) A → Vec (String A) A → List (List ℕ) → Type 0
AddsWords result old new words = OnOk result (map string_bytes new.items ≡ map string_bytes old.items ++ words)
