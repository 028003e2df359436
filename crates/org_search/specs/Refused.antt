-- Why words aren't looked for (profile).
use Rattle.std.specs.Prelude.{◌≡◌, ◌⊎◌, ℕ, Bool, true, false, ◌==◌, List, [], ◌∷◌, Option, None, Some, length, nat_lt, if◌then◌else◌}
use Rattle.std.specs.List.{list_any}
use Rattle.org_base.specs.Codes.{memory_fault}
use Rattle.org_base.specs.declared.fault.Fault.{Fault}
use Rattle.org_match.specs.Patterns.{regexp_fault}
use Rattle.org_search.specs.declared.refusal.Refusal.{Refusal}
use Rattle.org_search.specs.declared.refusal.Refusal.TheVariants.{NoWord, ManyWords, EmptyWord, LineFeed}
use Rattle.org_search.specs.declared.refusal.TheConstants.{MOST_WORDS}

-- nothing is there, or nothing behind a minus
abbrev pub is_empty_word : List ℕ → Bool
is_empty_word [] = true
is_empty_word (b ∷ []) = b == 45
is_empty_word (b ∷ c ∷ word) = false

-- why a word isn't looked for, if it isn't
abbrev pub word_refusal : List ℕ → Option Refusal
word_refusal word = if is_empty_word word then Some EmptyWord
    else if list_any (λ b. b == 10) word then Some LineFeed
    else None

-- the first of two refusals
abbrev pub or_later : Option Refusal → Option Refusal → Option Refusal
or_later None later = later
or_later (Some refusal) later = Some refusal

-- the refusal of the first word that has one
abbrev pub first_refusal : List (List ℕ) → Option Refusal
first_refusal [] = None
first_refusal (word ∷ words) = or_later (word_refusal word) (first_refusal words)

-- why words aren't looked for, if they aren't
abbrev pub refusal_of : List (List ℕ) → Option Refusal
refusal_of [] = Some NoWord
refusal_of (word ∷ words) = if nat_lt MOST_WORDS (length (word ∷ words)) then Some ManyWords else first_refusal (word ∷ words)

-- memory was refused, or a pattern
abbrev pub IsNotRead : Fault → Type 0
IsNotRead why = (why ≡ memory_fault) ⊎ (why ≡ regexp_fault)
