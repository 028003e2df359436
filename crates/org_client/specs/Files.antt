-- Files under names, and what inheritance looks at in them (Org Syntax, "Headings and Sections").
use Rattle.std.specs.Prelude.{◌≡◌, ◌≢◌, ◌-◌, ◌<◌, ◌≤◌, ◌++◌, ◌∷◌, [], ℕ, List, length, map, take, slice_get, Some, Result, OnOk, String, string_bytes}
use Rattle.std.specs.List.{All}
use Rattle.org_agenda.specs.Headings.{AllHaveHeads}
use Rattle.org_base.specs.Spans.{bytes_in}
use Rattle.org_base.specs.declared.limits.TheConstants.{MOST_FILES}
use Rattle.org_base.specs.declared.span.Span.{Span}
use Rattle.org_inherit.specs.Scope.{Scope}
use Rattle.org_store.specs.Begun.{section_of, section_start}
use Rattle.org_store.specs.File.{FileView}
use Rattle.org_store.specs.Outline.{OutlineView, outline_of, scope_in}
use Rattle.org_sum.specs.Texts.{AreOfText}
use Rattle.org_text.specs.Replace.{max_bytes}

-- a text under a name, the path by which its file is told from others, and how many bytes of the text are the file's own: what
-- stands behind them was read elsewhere
pub record NamedText : Type 0 where
  pub name : List ℕ
  pub path : List ℕ
  pub text : List ℕ
  pub own : ℕ

-- the same of strings, where so many bytes at the end aren't the file's own
abbrev pub named_text : {A : Type 0} → String A → String A → List ℕ → ℕ → NamedText
named_text name path text behind = record { name = string_bytes name; path = string_bytes path; text = text; own = length text - behind }

-- the section at a place, as far as it is the file's own
abbrev pub own_section : NamedText → ℕ → List ℕ
own_section file section = take (file.own - section_start file.text section) (section_of file.text section)

-- a span of its text is that
abbrev pub IsOwnSection : NamedText → ℕ → Span → Type 0
IsOwnSection file section span = bytes_in file.text span ≡ own_section file section

-- this is what a file says
pub record IsRead (file : FileView) (outline : OutlineView) : Type 0 where
  pub said : outline ≡ outline_of file.text
  pub short : length file.text ≤ max_bytes

-- a text under a name after others
abbrev pub with_file : List NamedText → List ℕ → List ℕ → List ℕ → ℕ → List NamedText
with_file files name path text behind = files ++ record { name = name; path = path; text = text; own = length text - behind } ∷ []

-- no file is of this path
abbrev pub IsNew : List ℕ → List NamedText → Type 0
IsNew path files = All (λ (file : NamedText). file.path ≢ path) files

-- no two files are of one path
abbrev pub AreDifferent : List NamedText → Type 0
AreDifferent files = (i j : ℕ) (a b : NamedText) → i < j → slice_get files i ≡ Some a → slice_get files j ≡ Some b → a.path ≢ b.path

-- files of which none stands twice, no more than there may be
pub record AreFiles (files : List NamedText) : Type 0 where
  pub few : length files ≤ MOST_FILES
  pub different : AreDifferent files

-- files in order, and the names whose values headings inherit
pub record FileSetView : Type 0 where
  pub files : List NamedText
  pub inherited : List (List ℕ)

-- there is room for a file of this path, or none
abbrev pub CanAdd : List ℕ → List NamedText → Type 0
CanAdd path files = IsNew path files × (length files < MOST_FILES)

abbrev pub IsFullFor : List ℕ → List NamedText → Type 0
IsFullFor path files = IsNew path files × (length files ≡ MOST_FILES)

-- what inheritance looks at in a file
abbrev pub scope_of : List (List ℕ) → NamedText → Scope
scope_of inherited file = scope_in (outline_of file.text) file.name inherited

-- the same of each file
abbrev pub scopes_of : FileSetView → List Scope
scopes_of file_set = map (scope_of file_set.inherited) file_set.files

-- they were read of texts: each heading has the head of its line, the entries of each are those of one text, and they are
-- no more than there may be files
pub record AreRead (scopes : List Scope) : Type 0 where
  pub heads : AllHaveHeads scopes
  pub texts : All (λ (scope : Scope). AreOfText scope.entries) scopes
  pub few : length scopes ≤ MOST_FILES

-- what inheritance looks at in the first so many files, each read of its text
pub record AreFirst (f : NamedText → Scope) (files : List NamedText) (count : ℕ) (scopes : List Scope) : Type 0 where
  pub named : scopes ≡ map f (take count files)
  pub heads : AllHaveHeads scopes
  pub texts : All (λ (scope : Scope). AreOfText scope.entries) scopes

-- a text under a name is put after the files of a library, unless it's refused
abbrev pub PutsFile : {T E A B : Type 0} → Result T E → FileSetView → FileSetView → String A → String B → List ℕ → ℕ → Type 0
PutsFile result old new name path text behind = OnOk result (new.files ≡ with_file old.files (string_bytes name) (string_bytes path) text behind)
