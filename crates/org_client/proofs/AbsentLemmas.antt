-- What isn't there has no members, and what is there has its own.
use Rattle.std.proofs.Common.{◌≡◌, ◌∙◌, ℕ, ◌<◌, ◌≤◌, List, [], ◌++◌, length, ap, refl, sym}
use Rattle.std.specs.Prelude.{None, Option, slice_index_or}
use Rattle.std.proofs.lemmas.List.{append-nil}
use Rattle.std.proofs.lemmas.Option.{slice_get_past, slice_get_read}
use Rattle.org_entry.specs.declared.entry.Entry.{Entry}
use Rattle.org_client.specs.Files.{NamedText}
use Rattle.org_client.specs.HeadingMembers.{title_if, title_of}
use Rattle.org_client.specs.Members.{MembersView}
use Rattle.org_client.specs.PlaceMembers.{file_member, named_member}
use Rattle.std.specs.List.{slice_get}

pub no_file : (only : Option (List ℕ)) (files : List NamedText) (file : ℕ) → length files ≤ file → file_member only files file ≡ []
no_file only files file past = ap (named_member only) (slice_get_past files file past)

no_title : (es : List Entry) (place : ℕ) → length es ≤ place → title_of (slice_get es place) ≡ []
no_title es place past = ap title_of (slice_get_past es place past)

pub own_title : (es : List Entry) (place : ℕ) (e : Entry) → place < length es → e ≡ slice_index_or es place e → title_of (slice_get es place) ≡ title_if e e.head
own_title es place e within is = ap title_of (slice_get_read es (length es) place e refl within is)

-- titles stay where no entry is at a place, or one that is no heading

pub kept_past : (es : List Entry) (place : ℕ) (old : List (List ℕ)) → length es ≤ place → old ≡ old ++ title_of (slice_get es place)
kept_past es place old past = sym (ap (λ titles. old ++ titles) (no_title es place past) ∙ append-nil old)

pub kept_bare : (es : List Entry) (place : ℕ) (e : Entry) (old : List (List ℕ)) → place < length es → e ≡ slice_index_or es place e → e.head ≡ None →
    old ≡ old ++ title_of (slice_get es place)
kept_bare es place e old within is bare =
    sym (ap (λ titles. old ++ titles) (own_title es place e within is ∙ ap (title_if e) bare) ∙ append-nil old)

-- nothing is put where there is nothing
pub kept_members : (members : MembersView) (bytes : List ℕ) → bytes ≡ [] → members ≡ record { only = members.only; bytes = members.bytes ++ bytes }
kept_members members bytes none =
    ap (λ (b : List ℕ). record { only = members.only; bytes = b }) (sym (ap (λ b. members.bytes ++ b) none ∙ append-nil members.bytes))
