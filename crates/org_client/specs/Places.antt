-- Where headings stand in the files of a library (profile).
use Rattle.std.specs.Prelude.{◌≡◌, ℕ, None, Option, Some, List, slice_get}
use Rattle.std.specs.Option.{option_and_then}
use Rattle.org_store.specs.Places.{place_at}
use Rattle.org_store.specs.declared.place.Place.{Place}
use Rattle.org_client.specs.Files.{NamedText}

-- where the section at a place of the file at another begins
pub record IsPlaceIn (files : List NamedText) (file heading : ℕ) (place : Place) : Type 0 where
  pub named : NamedText
  pub there : slice_get files file ≡ Some named
  pub is : place_at named.text heading ≡ Some place

-- the same as a value; none where there is no such section
abbrev pub place_in : List NamedText → ℕ → ℕ → Option Place
place_in files file heading = option_and_then (λ named. place_at named.text heading) (slice_get files file)

-- there is no such section in the file at a place, or no such file
abbrev pub IsNoPlace : List NamedText → ℕ → ℕ → Type 0
IsNoPlace files file heading = (named : NamedText) → slice_get files file ≡ Some named → place_at named.text heading ≡ None
