-- Changes of a text, and what an act makes of one.
use Rattle.std.specs.Prelude.{◌≡◌, ◌≢◌, ℕ, ◌+◌, ◌≤◌, List, length, Result, Ok, Err, String, string_bytes}
use Rattle.org_act.specs.declared.act.Refusal.{Refusal}
use Rattle.org_act.specs.declared.act.Refusal.TheVariants as refusal
use Rattle.org_store.specs.declared.change.OwnedChange.{OwnedChange}
use Rattle.org_base.specs.Codes.{memory_fault}
use Rattle.org_text.specs.Replace.{replace}

-- a text with a change made
abbrev pub with_change : List ℕ → OwnedChange → List ℕ
with_change text change = replace text change.at change.del (string_bytes change.ins)

-- what a change deletes lies within a text
abbrev pub LiesIn : List ℕ → OwnedChange → Type 0
LiesIn text change = change.at + change.del ≤ length text

-- the refusal that stands for want of memory
abbrev pub no_memory : Refusal
no_memory = refusal.Fault memory_fault

-- a change that makes the wanted text of another, or the refusal that is wanted, unless memory is refused
abbrev pub Makes : Result OwnedChange Refusal → List ℕ → Result (List ℕ) Refusal → Type 0
Makes (Ok change) text wanted = LiesIn text change × (wanted ≡ Ok (with_change text change))
Makes (Err why) text wanted = why ≢ no_memory → wanted ≡ Err why

-- the word that is wanted, or the refusal, unless memory is refused
abbrev pub ChoosesText : {A : Type 0} → Result (String A) Refusal → Result (List ℕ) Refusal → Type 0
ChoosesText (Ok word) wanted = wanted ≡ Ok (string_bytes word)
ChoosesText (Err why) wanted = why ≢ no_memory → wanted ≡ Err why
