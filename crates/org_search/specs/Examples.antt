-- Worked examples: what the definitions say of inputs at which a wrong rule says something else.
use Rattle.std.specs.Prelude.{◌≡◌, true, false, List, [], ◌∷◌, None, Some, codes}
use Rattle.caseless.specs.Caseless.{default_case_fold}
use Rattle.org_search.specs.Folded.{stands_in}
use Rattle.org_search.specs.Holds.{meets, without_ending}
use Rattle.org_search.specs.Refused.{refusal_of, word_refusal}
use Rattle.org_search.specs.Typed.{pattern_text}
use Rattle.org_search.specs.declared.refusal.Refusal.TheVariants.{EmptyWord, LineFeed, NoWord}

-- case is folded in full, and not as Turkish has it; a word stands in longer ones, and nowhere in a text that ends before it does;
-- slashes want something between them; what mustn't be there is met where it isn't
pub record ExamplesHold : Type 0 where
  pub sharp_s : default_case_fold (223 ∷ []) ≡ codes "ss"
  pub dotted_i : default_case_fold (304 ∷ []) ≡ 105 ∷ 775 ∷ []
  pub final_sigma : default_case_fold (962 ∷ []) ≡ 963 ∷ []
  pub kelvin : default_case_fold (8490 ∷ []) ≡ codes "k"
  pub longer_word : stands_in (codes "dg") (codes "budget") ≡ true
  pub shorter_text : stands_in (codes "budget") (codes "budg") ≡ false
  pub slashed : pattern_text (codes "/a/") ≡ Some (codes "a")
  pub slashes_alone : pattern_text (codes "//") ≡ None
  pub one_slash : pattern_text (codes "/a") ≡ None
  pub ending : without_ending (97 ∷ 13 ∷ 10 ∷ []) ≡ 97 ∷ []
  pub absent : meets false false ≡ true
  pub minus_alone : word_refusal (codes "-") ≡ Some EmptyWord
  pub line_feed : word_refusal (97 ∷ 10 ∷ []) ≡ Some LineFeed
  pub no_word : refusal_of [] ≡ Some NoWord
