-- Worked examples: what the definitions say of inputs at which a wrong rule says something else.
use Rattle.std.specs.Prelude.{◌≡◌, ◌-◌, ◌^◌, true, false, [], ◌∷◌, replicate, codes}
use Rattle.org_base.specs.Counts.{none_counted, ticked}
use Rattle.org_base.specs.FileName.{is_file_name}
use Rattle.org_base.specs.Properties.{folded}
use Rattle.org_base.specs.Words.{first_word, is_blank, same_word, trim_end, trim_start, trimmed}
use Rattle.org_base.specs.declared.meter.Tick.TheVariants.{Examine, Read}

-- words and the white space around them, in either case; the longest name of a file and what is none; how a name is kept.
-- What a tick adds, and where counts end (Org Syntax, Headings, Property Syntax; white space, names of files and counts:
-- profile)
pub record ExamplesHold : Type 0 where
  pub behind_space : trim_start (codes " \t\r a b ") ≡ codes "a b "
  pub before_space : trim_end (codes " a b \r\n") ≡ codes " a b"
  pub within_space : trimmed (codes "\ta b\n") ≡ codes "a b"
  pub first_of_two : first_word (codes "  one two") ≡ codes "one"
  pub space_is_blank : is_blank (codes " \t\r\n") ≡ true
  pub letters_are_not : is_blank (codes " x ") ≡ false
  pub either_case : same_word (codes "Todo") (codes "TODO") ≡ true
  pub one_letter_more : same_word (codes "TODO") (codes "TODOS") ≡ false
  pub longest_name : is_file_name (replicate 255 97) ≡ true
  pub too_long : is_file_name (replicate 256 97) ≡ false
  pub mark_alone : is_file_name (codes "!") ≡ true
  pub accented : is_file_name (195 ∷ 169 ∷ []) ≡ true
  pub no_byte : is_file_name [] ≡ false
  pub with_space : is_file_name (codes "a b") ≡ false
  pub with_tab : is_file_name (codes "a\tb") ≡ false
  pub control : is_file_name (31 ∷ []) ≡ false
  pub delete : is_file_name (127 ∷ []) ≡ false
  pub small_letters : folded (codes "Effort") ≡ codes "effort"
  pub read_once : ticked Read none_counted ≡ record { classified = 0; read = 1; examined = 0 }
  pub counts_end : (ticked Examine (record { classified = 0; read = 0; examined = 2 ^ 64 - 1 })).examined ≡ 2 ^ 64 - 1
