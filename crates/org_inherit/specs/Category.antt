-- Categories (Org manual 9.6, "Categories"; which part of a file's name, and the order in a file: profile).
-- Characters by their codes: 46 ., 47 /.
use Rattle.std.specs.Prelude.{ℕ, ◌==◌, if◌then◌else◌, List, length, codes, map}
use Rattle.std.specs.List.{after_last, before_last, range_with_len}
use Rattle.std.specs.Option.{option_or, unwrap_or}
use Rattle.org_entry.specs.declared.entry.Entry.{Entry}
use Rattle.org_inherit.specs.Scope.{Scope}
use Rattle.org_inherit.specs.Values.{nearest_value, file_value}

-- what stands after the last slash of a file's name
abbrev pub base_name : List ℕ → List ℕ
base_name name = after_last (λ b. b == 47) name

-- the name without its last extension; a dot in first place begins none
abbrev pub stem : List ℕ → List ℕ
stem base = let front = before_last (λ b. b == 46) base in if length front == 0 then base else front

-- the category of the headings of a file that says nothing of it
abbrev pub category_of : List ℕ → List ℕ
category_of name = stem (base_name name)

-- what a file says of the category of its headings: its value of CATEGORY, else its category, else its name
abbrev pub file_category : Scope → List ℕ
file_category scope = unwrap_or (option_or (file_value scope (codes "CATEGORY")) scope.settings.category) (stem (base_name scope.file))

-- the own CATEGORY, else that of the nearest ancestor that has one, else the file's category, which is given
abbrev pub category_under : List Entry → List ℕ → ℕ → List ℕ
category_under es file i = unwrap_or (nearest_value es (codes "CATEGORY") i) file

-- the categories of so many first entries
abbrev pub first_categories : List Entry → List ℕ → ℕ → List (List ℕ)
first_categories es file count = map (category_under es file) (range_with_len 0 count)

-- the category of the entry at a place: the own CATEGORY, else that of the nearest ancestor that has one, else the file's
abbrev pub category : Scope → ℕ → List ℕ
category scope i = unwrap_or (nearest_value scope.entries (codes "CATEGORY") i) (file_category scope)
