-- The names of a file's headings, put one after the other, and found by their sections.
use Rattle.std.proofs.Common.{◌≡◌, ◌∙◌, ℕ, suc, Bool, true, false, ◌+◌, ◌-◌, ◌<◌, ◌≤◌, List, [], ◌∷◌, ◌++◌, length, get_or, take, refl, sym, ap, append-nil}
use Rattle.std.specs.Prelude.{◌||◌, not, slice_get, Some}
use Rattle.std.proofs.lemmas.Bool.{le-leb, lt-leb, true≢false}
use Rattle.std.proofs.lemmas.Grind.{flat_map-append}
use Rattle.std.proofs.lemmas.List.{get_or_past, length-map, take_more}
use Rattle.std.proofs.lemmas.Option.{get_or_from_slice_get}
use Rattle.org_client.specs.HeadingNames.{FileNames, IsCounted, id_heading_of, id_headings, name_at}
use Rattle.org_entry.specs.declared.entry.Entry.{Entry}
use Rattle.org_ids.proofs.CountLemmas.{is_twice_is}
use Rattle.org_ids.specs.Counts.{Counts, is_among_twice, is_twice, number_of, times_in}
use Rattle.org_ids.specs.Names.{IdHeading, OnWay, enter, is_whole, kept_name, named_from, named_in, names_of, text_part, with_text}

named_length : (file : List ℕ) (way : List OnWay) (hs : List IdHeading) → length (named_from file way hs) ≡ length hs
named_length file way [] = refl
named_length file way (h ∷ hs) = ap suc (named_length file (enter way h) hs)

-- as many names as headings
pub names_length : (file : List ℕ) (hs : List IdHeading) → length (names_of file hs) ≡ length hs
names_length file hs = length-map (named_in file hs) kept_name ∙ named_length file [] hs

-- the headings of one entry more
pub headings_more : (entries : List Entry) (place : ℕ) (entry : Entry) → place < length entries → entry ≡ get_or entries place entry →
    id_headings (take (place + 1) entries) ≡ id_headings (take place entries) ++ id_heading_of entry entry.head
headings_more entries place entry h e =
    ap id_headings (take_more entries place entry h)
    ∙ flat_map-append (λ (x : Entry). id_heading_of x x.head) (take place entries) (get_or entries place entry ∷ [])
    ∙ ap (λ (x : Entry). id_headings (take place entries) ++ (id_heading_of x x.head ++ [])) (sym e)
    ∙ ap (λ (x : List IdHeading). id_headings (take place entries) ++ x) (append-nil (id_heading_of entry entry.head))

-- a section in front of the first heading has no name, nor has one behind the last; else it is that at its place
pub no_front : (names : FileNames) (section : ℕ) → section < names.front → name_at names section ≡ []
no_front names section h = rw (lt-leb names.front section h) refl

at_place : (names : FileNames) (section : ℕ) → names.front ≤ section → name_at names section ≡ get_or names.names (section - names.front) []
at_place names section h = rw (le-leb names.front section h) refl

pub none_past : (names : FileNames) (section : ℕ) → names.front ≤ section → length names.names ≤ section - names.front → name_at names section ≡ []
none_past names section h past = at_place names section h ∙ get_or_past names.names (section - names.front) [] past

pub name_there : (names : FileNames) (section : ℕ) (name : List ℕ) → names.front ≤ section → slice_get names.names (section - names.front) ≡ Some name → name_at names section ≡ name
name_there names section name h there = at_place names section h ∙ get_or_from_slice_get names.names (section - names.front) name [] there

-- what is counted says whether a name is among the others twice
pub repeated_is : (counts : Counts) (names : List (List ℕ)) (name : List ℕ) (b : Bool) → b ≡ is_twice (number_of counts name) → IsCounted counts names name → b ≡ is_among_twice name names
repeated_is counts names name b e counted = e ∙ ap is_twice counted ∙ is_twice_is (times_in name names)

-- a whole name that isn't repeated is summed alone
pub no_text : (name section : List ℕ) (repeated : Bool) → (repeated || not (is_whole name)) ≡ false → with_text name repeated section ≡ name
no_text name section repeated e = alone (is_whole name) repeated e
  where
    alone : (whole repeated : Bool) → (repeated || not whole) ≡ false → name ++ text_part whole repeated section ≡ name
    alone true true e = absurd (true≢false e)
    alone true false e = append-nil name
    alone false true e = absurd (true≢false e)
    alone false false e = absurd (true≢false e)
