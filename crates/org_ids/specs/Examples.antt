-- Worked examples: what the definitions say of inputs at which a wrong rule says something else.
use Rattle.std.specs.Prelude.{◌≡◌, ◌+◌, ◌-◌, ◌*◌, ◌^◌, ℕ, true, false, List, [], ◌∷◌, Option, None, Some, codes, length, replicate}
use Rattle.org_ids.specs.Laws.{Placed, named, summed}
use Rattle.org_ids.specs.Letters.{id_length, id_of, is_id, stands_for}
use Rattle.org_ids.specs.Names.{IdHeading, bounded, is_whole, named_in}
use Rattle.org_ids.specs.Words.{plain_words}

abbrev pub titled : ℕ → List ℕ → IdHeading
titled level title = record { level = level; title = title; id = None }

-- the heading at a place among some of s.org, with the text of its section
abbrev pub in_s : List IdHeading → ℕ → List ℕ → Placed
in_s headings place section = record { file = codes "s.org"; headings = headings; place = place; section = section }

pub record ExamplesHold : Type 0 where
  pub counts : plain_words (codes "Plan [1/2] of\tit [33%]") ≡ codes "Plan of it"
  pub empty_counts : plain_words (codes "[/] a[%]b") ≡ codes "a b"
  pub no_counts : plain_words (codes "[a/2] [12] [1/2") ≡ codes "[a/2] [12] [1/2"
  pub no_words : plain_words (codes " [3/3] ") ≡ []
  pub one : summed (in_s (titled 1 (codes "A") ∷ []) 0 (codes "* A\n")) ≡ codes "s.org\n*A"
  -- the same title below another heading is no other heading's name; a level that is skipped has no part
  pub below : summed (in_s (titled 1 (codes "A") ∷ titled 3 (codes "A") ∷ titled 2 (codes "B") ∷ []) 1 (codes "*** A\n")) ≡ codes "s.org\n*A\n*A"
  pub left : summed (in_s (titled 1 (codes "A") ∷ titled 3 (codes "A") ∷ titled 2 (codes "B") ∷ []) 2 (codes "** B\n")) ≡ codes "s.org\n*A\n*B"
  -- a heading of the same titles comes before: the text is put in for both
  pub before : summed (in_s (titled 1 (codes "A") ∷ titled 1 (codes "A") ∷ []) 1 (codes "* A\none\n")) ≡ codes "s.org\n*A\n=* A\none\n"
  pub second : summed (in_s (titled 1 (codes "A") ∷ titled 1 (codes "A") ∷ []) 0 (codes "* A\ntwo\n")) ≡ codes "s.org\n*A\n=* A\ntwo\n"
  -- an ID takes the place of all of it, and an empty one of nothing; that of a parent isn't its children's
  pub by_id : summed (in_s (record { level = 1; title = codes "A"; id = Some (codes "x") } ∷ []) 0 []) ≡ codes "\n:x"
  pub by_no_id : summed (in_s (record { level = 1; title = codes "A"; id = Some [] } ∷ []) 0 []) ≡ codes "s.org\n*A"
  pub by_own_id : summed (in_s (record { level = 1; title = codes "A"; id = Some (codes "x") } ∷ titled 2 (codes "B") ∷ []) 1 []) ≡ codes "s.org\n*A\n*B"
  pub whole : is_whole (bounded (replicate 511 65)) ≡ true
  pub longer : is_whole (bounded (replicate 512 65)) ≡ false
  pub first : id_of 4 0 ≡ codes "aaaa"
  pub last : id_of 2 (32 ^ 12 - 1) ≡ codes "99"
  pub third : id_of 3 (32 ^ 10 + 31 * 32 ^ 9) ≡ codes "ab9"
  pub own : stands_for (codes "ab9") (32 ^ 10 + 31 * 32 ^ 9) ≡ true
  pub other : stands_for (codes "ac9") (32 ^ 10 + 31 * 32 ^ 9) ≡ false
  pub looks_alike : is_id (codes "abcl") ≡ false
  pub too_few : is_id (codes "abc") ≡ false
  pub an_id : is_id (codes "abc2") ≡ true
  pub shortest : id_length 1 ≡ 4
  pub two : id_length 2 ≡ 5
  pub full : id_length 1073 ≡ 6
  pub more : id_length 1074 ≡ 7
  pub none : named [] (codes "abcd") ≡ None
