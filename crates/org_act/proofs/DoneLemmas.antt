-- The first done keyword of a sequence, and the heading whose sequence it is.
use Rattle.std.proofs.Common.{◌≡◌, ◌≢◌, ◌∙◌, ℕ, suc, ◌<◌, ◌&&◌, ◌==◌, true, false, inl, inr, List, [], Some, length, drop, refl, sym, ap, arith, drop-cons}
use Rattle.std.specs.Prelude.{Option, Err, if◌then◌else◌}
use Rattle.std.proofs.lemmas.Bool.{cases_Bool}
use Rattle.std.proofs.lemmas.Bool.Decides.{nat_tests}
use Rattle.org_act.specs.Completing.{done_word, done_word_in, done_word_of, first_done, no_heading}
use Rattle.org_complete.proofs.EntryLemmas.{no_head}
use Rattle.org_complete.proofs.StartLemmas.{heading_there, section_there, start_there}
use Rattle.org_complete.specs.Completion.{section_at}
use Rattle.org_entry.specs.Entry.{entry_of}
use Rattle.org_head.specs.declared.head.Head.{Head}
use Rattle.org_settings.specs.Keywords.{Keyword, keyword_done, keyword_first}
use Rattle.org_store.specs.Begun.{IsBegunBy, entry_there, has_heading, section_of}
use Rattle.org_store.specs.Outline.{file_settings}

-- one keyword further
pub first_done-step : (first place : ℕ) (ks : List Keyword) → place < length ks → first_done first place (drop place ks)
    ≡ (if keyword_done ks place && keyword_first ks place == first then Some place else first_done first (suc place) (drop (suc place) ks))
first_done-step first place ks lt = rw (drop-cons ks place (record { word = []; done = false; first = 0 })) refl

pub first_done-found : (first place : ℕ) (ks : List Keyword) → place < length ks → keyword_done ks place ≡ true → keyword_first ks place ≡ first → first_done first place (drop place ks) ≡ Some place
first_done-found first place ks lt done same =
    let test : (keyword_done ks place && keyword_first ks place == first) ≡ true = rw (done, same) (grind (arith, nat_tests)) in
    first_done-step first place ks lt ∙ (rw test refl)

pub first_done-open : (first place : ℕ) (ks : List Keyword) → place < length ks → keyword_done ks place ≡ false → first_done first place (drop place ks) ≡ first_done first (suc place) (drop (suc place) ks)
first_done-open first place ks lt open_one =
    let test : (keyword_done ks place && keyword_first ks place == first) ≡ false = rw open_one refl in
    first_done-step first place ks lt ∙ (rw test refl)

pub first_done-other : (first place : ℕ) (ks : List Keyword) → place < length ks → keyword_first ks place ≢ first → first_done first place (drop place ks) ≡ first_done first (suc place) (drop (suc place) ks)
first_done-other first place ks lt other = elim (cases_Bool (keyword_done ks place)) [
  | inl done ↦
      let test : (keyword_done ks place && keyword_first ks place == first) ≡ false = rw done (grind (arith, nat_tests)) in
      first_done-step first place ks lt ∙ (rw test refl)
  | inr open_one ↦ first_done-open first place ks lt open_one
]

-- the heading on a line is that of the section that the line begins
pub done_there : (t : List ℕ) (line place : ℕ) → IsBegunBy t line place → done_word t line ≡ done_word_of (file_settings t) (entry_there t place)
done_there t line place b =
    let settings = file_settings t in
    elim (cases_Bool (has_heading t line)) [
      | inl h ↦ rw h (
          ap (λ at. done_word_of settings (entry_of settings (section_at t at))) (start_there t line place b)
          ∙ ap (λ s. done_word_of settings (entry_of settings s)) (section_there t place))
      | inr h ↦
          let none = no_head settings (section_of t place) (sym (heading_there t line place b) ∙ h) in
          rw h (sym (ap (λ (o : Option Head). done_word_in settings (entry_there t place).text o) none))
    ]

pub no_heading_there : (t : List ℕ) (line : ℕ) → has_heading t line ≡ false → done_word t line ≡ Err no_heading
no_heading_there t line h = rw h refl
