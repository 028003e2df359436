-- The automaton takes each spelled expression to its end.
use Rattle.std.specs.Char.{is_ascii_digit}
use Rattle.std.proofs.Common.{◌≡◌, ℕ, suc, ◌+◌, ◌<◌, ◌≤◌, Bool, true, false, cond, ◌||◌, ◌&&◌, not, List, [], ◌∷◌, ◌++◌, length, Option, Some, refl, ap, ◌∙◌, sym, arith, append_assoc}
use Rattle.std.proofs.Common.{append-nil}
use Rattle.std.specs.Prelude.{◌==◌}
use Rattle.std.specs.List.{list_all}
use Rattle.std.proofs.lemmas.Bool.Decides.{nat_tests}
use Rattle.org_base.specs.Characters.{is_tag_char}
use Rattle.org_expression.specs.Grammar.{Link, Direct, And, Or, Sign, Unsigned, Plus, Minus, Op, Less, Equal, Greater, AtMost, AtLeast, Differs, Value, Number, Quoted, Pattern, Term, Tag, Found, Compare, Item, item, Expr, Tags, Todo, Open, spell_sign, spell_op, spell_name, spell_fraction, spell_value, spell_term, spell_item, spell_items, spell, IsName, Lacks, takes_pattern, IsValue, IsTerm, IsTermIn, IsLink, AreLater, AreItems, AreItemsOrNone, IsExpr}
use Rattle.org_expression.proofs.GrammarWords.{is_name_char}
use Rattle.org_expression.specs.declared.state.Part.{Part}
use Rattle.org_expression.specs.declared.state.Part.TheVariants.{InTags, InTodo}
use Rattle.org_expression.specs.declared.state.State.{State}
use Rattle.org_expression.specs.declared.state.State.TheVariants.{Start, Linked, Signed, InName, Escaped, InPattern, Closed, AfterLess, AfterGreater, AfterCompare, AfterEqual, AfterMinus, InWhole, AfterPoint, InFraction, InText, AfterSlash, AfterBang}
use Rattle.org_expression.specs.Automaton.{step, step_at, run, is_final_at}
use Rattle.org_expression.proofs.Marks.{no_mark, no_word-plus, no_word-minus, no_word-and, no_word-or, no_word-slash}

-- a term may begin here
pub record Opens (p : Part) (o : Option State) : Type 0 where
  pub backslash : step_at o 92 ≡ Some (Escaped p)
  pub word : (c : ℕ) → is_tag_char c ≡ true → step_at o c ≡ Some (InName p)
  pub brace : p ≡ InTags → step_at o 123 ≡ Some InPattern

-- a sign may stand here
pub record Signs (p : Part) (o : Option State) : Type 0 where
  pub plus : step_at o 43 ≡ Some (Signed p)
  pub minus : step_at o 45 ≡ Some (Signed p)

-- a term has ended here
pub record Ends (p : Part) (o : Option State) : Type 0 where
  pub signs : Signs p o
  pub and : step_at o 38 ≡ Some (Linked p)
  pub or : step_at o 124 ≡ Some (Linked p)
  pub slash : p ≡ InTags → step_at o 47 ≡ Some AfterSlash
  pub final : is_final_at o ≡ true

-- ---- one character

start_word : (c : ℕ) → is_tag_char c ≡ true → step Start c ≡ Some (InName InTags)
start_word c h = let m = no_mark c h in grind (arith, nat_tests, h, m.plus, m.minus, m.slash, m.backslash, m.brace)

linked_word : (p : Part) (c : ℕ) → is_tag_char c ≡ true → step (Linked p) c ≡ Some (InName p)
linked_word InTags c h = let m = no_mark c h in grind (arith, nat_tests, h, m.plus, m.minus, m.backslash, m.brace)
linked_word InTodo c h = let m = no_mark c h in grind (arith, nat_tests, h, m.plus, m.minus, m.backslash)

signed_word : (p : Part) (c : ℕ) → is_tag_char c ≡ true → step (Signed p) c ≡ Some (InName p)
signed_word InTags c h = let m = no_mark c h in grind (arith, nat_tests, h, m.backslash, m.brace)
signed_word InTodo c h = let m = no_mark c h in grind (arith, nat_tests, h, m.backslash)

slash_word : (c : ℕ) → is_tag_char c ≡ true → step AfterSlash c ≡ Some (InName InTodo)
slash_word c h = let m = no_mark c h in grind (arith, nat_tests, h, m.plus, m.minus, m.bang, m.backslash)

bang_word : (c : ℕ) → is_tag_char c ≡ true → step AfterBang c ≡ Some (InName InTodo)
bang_word c h = let m = no_mark c h in grind (arith, nat_tests, h, m.plus, m.minus, m.backslash)

pub name_word : (p : Part) (c : ℕ) → is_tag_char c ≡ true → step (InName p) c ≡ Some (InName p)
name_word InTags c h = let m = no_mark c h in grind (arith, nat_tests, h, m.less, m.equal, m.greater, m.backslash)
name_word InTodo c h = let m = no_mark c h in grind (arith, nat_tests, h, m.backslash)

pub opens_start : Opens InTags (Some Start)
opens_start = record { backslash = refl; word = start_word; brace = λ _. refl }

pub opens_linked : (p : Part) → Opens p (Some (Linked p))
opens_linked InTags = record { backslash = refl; word = linked_word InTags; brace = λ _. refl }
opens_linked InTodo = record { backslash = refl; word = linked_word InTodo; brace = λ e. cc }

pub opens_signed : (p : Part) → Opens p (Some (Signed p))
opens_signed InTags = record { backslash = refl; word = signed_word InTags; brace = λ _. refl }
opens_signed InTodo = record { backslash = refl; word = signed_word InTodo; brace = λ e. cc }

pub opens_slash : Opens InTodo (Some AfterSlash)
opens_slash = record { backslash = refl; word = slash_word; brace = λ e. cc }

pub opens_bang : Opens InTodo (Some AfterBang)
opens_bang = record { backslash = refl; word = bang_word; brace = λ e. cc }

pub signs_start : Signs InTags (Some Start)
signs_start = record { plus = refl; minus = refl }

pub signs_linked : (p : Part) → Signs p (Some (Linked p))
signs_linked p = record { plus = refl; minus = refl }

pub signs_slash : Signs InTodo (Some AfterSlash)
signs_slash = record { plus = refl; minus = refl }

pub signs_bang : Signs InTodo (Some AfterBang)
signs_bang = record { plus = refl; minus = refl }

pub ends_name : (p : Part) → Ends p (Some (InName p))
ends_name InTags = record {
  signs = record { plus = rw no_word-plus refl; minus = rw no_word-minus refl };
  and = rw no_word-and refl;
  or = rw no_word-or refl;
  slash = λ _. rw no_word-slash refl;
  final = refl;
}
ends_name InTodo = record {
  signs = record { plus = rw no_word-plus refl; minus = rw no_word-minus refl };
  and = rw no_word-and refl;
  or = rw no_word-or refl;
  slash = λ e. cc;
  final = refl;
}

pub ends_closed : Ends InTags (Some Closed)
ends_closed = record { signs = record { plus = refl; minus = refl }; and = refl; or = refl; slash = λ _. refl; final = refl }

pub ends_whole : (n : ℕ) → Ends InTags (Some (InWhole n))
ends_whole n = record { signs = record { plus = refl; minus = refl }; and = refl; or = refl; slash = λ _. refl; final = refl }

pub ends_fraction : (n : ℕ) → Ends InTags (Some (InFraction n))
ends_fraction n = record { signs = record { plus = refl; minus = refl }; and = refl; or = refl; slash = λ _. refl; final = refl }

-- ---- names

escapes : (p : Part) (o : Option State) → step_at o 92 ≡ Some (Escaped p) → (cs : List ℕ) → run o (92 ∷ 45 ∷ cs) ≡ run (Some (InName p)) cs
escapes p o h cs = rw h refl

taken : (o : Option State) (s : State) (c : ℕ) → step_at o c ≡ Some s → (cs : List ℕ) → run o (c ∷ cs) ≡ run (Some s) cs
taken o s c h cs = rw h refl

-- the first character of a name, and the others, by the same two steps
name_char : (p : Part) (o : Option State) → step_at o 92 ≡ Some (Escaped p) → ((c : ℕ) → is_tag_char c ≡ true → step_at o c ≡ Some (InName p)) →
    (b : Bool) (c : ℕ) → c == 45 ≡ b → (is_tag_char c || b) ≡ true → (cs : List ℕ) →
    run o (cond b (92 ∷ 45 ∷ cs) (c ∷ cs)) ≡ run (Some (InName p)) cs
name_char p o escape word true c e h cs = escapes p o escape cs
name_char p o escape word false c e h cs = taken o (InName p) c (word c (grind (arith, nat_tests))) cs

-- the tests of both parts hold
pub both_left : (a b : Bool) → (a && b) ≡ true → a ≡ true
both_left true b h = refl
both_left false b h = h

pub both_right : (a b : Bool) → (a && b) ≡ true → b ≡ true
both_right true b h = h
both_right false b h = cc

append_cond : (b : Bool) (c : ℕ) (cs rest : List ℕ) → cond b (92 ∷ 45 ∷ cs) (c ∷ cs) ++ rest ≡ cond b (92 ∷ 45 ∷ (cs ++ rest)) (c ∷ (cs ++ rest))
append_cond true c cs rest = refl
append_cond false c cs rest = refl

name_more : (p : Part) (name rest : List ℕ) → list_all is_name_char name ≡ true → run (Some (InName p)) (spell_name name ++ rest) ≡ run (Some (InName p)) rest
name_more p [] rest h = refl
name_more p (c ∷ cs) rest h =
    rw (append_cond (c == 45) c (spell_name cs) rest)
    (name_char p (Some (InName p)) (name_backslash p) (name_word p) (c == 45) c refl (both_left _ _ h) (spell_name cs ++ rest)
    ∙ name_more p cs rest (both_right _ _ h))
  where
    name_backslash : (p : Part) → step (InName p) 92 ≡ Some (Escaped p)
    name_backslash InTags = refl
    name_backslash InTodo = refl

name_run : (p : Part) (o : Option State) → Opens p o → (name rest : List ℕ) → IsName name → run o (spell_name name ++ rest) ≡ run (Some (InName p)) rest
name_run p o opens [] rest h = absurd (h.0 refl)
name_run p o opens (c ∷ cs) rest h =
    rw (append_cond (c == 45) c (spell_name cs) rest)
    (name_char p o opens.backslash opens.word (c == 45) c refl (both_left _ _ h.1) (spell_name cs ++ rest)
    ∙ name_more p cs rest (both_right _ _ h.1))

-- ---- digits, texts, patterns

pub digit_more : (n c : ℕ) → is_ascii_digit c ≡ true → n < 18 → step (InWhole n) c ≡ Some (InWhole (n + 1))
digit_more n c h less = rw h (grind (arith, nat_tests))

pub fraction_digit : (n c : ℕ) → is_ascii_digit c ≡ true → n < 9 → step (InFraction n) c ≡ Some (InFraction (n + 1))
fraction_digit n c h less = rw h (grind (arith, nat_tests))

whole_more : (ds : List ℕ) (n : ℕ) (rest : List ℕ) → n + length ds ≤ 18 → list_all is_ascii_digit ds ≡ true →
    run (Some (InWhole n)) (ds ++ rest) ≡ run (Some (InWhole (n + length ds))) rest
whole_more [] n rest l h = let e : n ≡ n + 0 = omega arith in rw (← e) refl
whole_more (d ∷ ds) n rest l h =
    let e : n + 1 + length ds ≡ n + suc (length ds) = omega arith in
    taken (Some (InWhole n)) (InWhole (n + 1)) d (digit_more n d (both_left _ _ h) (omega arith)) (ds ++ rest)
    ∙ whole_more ds (n + 1) rest (omega arith) (both_right _ _ h) ∙ ap (λ k. run (Some (InWhole k)) rest) e

fraction_more : (ds : List ℕ) (n : ℕ) (rest : List ℕ) → n + length ds ≤ 9 → list_all is_ascii_digit ds ≡ true →
    run (Some (InFraction n)) (ds ++ rest) ≡ run (Some (InFraction (n + length ds))) rest
fraction_more [] n rest l h = let e : n ≡ n + 0 = omega arith in rw (← e) refl
fraction_more (d ∷ ds) n rest l h =
    let e : n + 1 + length ds ≡ n + suc (length ds) = omega arith in
    taken (Some (InFraction n)) (InFraction (n + 1)) d (fraction_digit n d (both_left _ _ h) (omega arith)) (ds ++ rest)
    ∙ fraction_more ds (n + 1) rest (omega arith) (both_right _ _ h) ∙ ap (λ k. run (Some (InFraction k)) rest) e

pub not_true : (b : Bool) → not b ≡ true → b ≡ false
not_true true h = sym h
not_true false h = refl

text_more : (t rest : List ℕ) → Lacks 34 t → run (Some InText) (t ++ 34 ∷ rest) ≡ run (Some Closed) rest
text_more [] rest h = refl
text_more (c ∷ cs) rest h =
    taken (Some InText) InText c (rw (not_true (c == 34) (both_left _ _ h)) refl) (cs ++ 34 ∷ rest) ∙ text_more cs rest (both_right _ _ h)

pattern_more : (t rest : List ℕ) → Lacks 125 t → run (Some InPattern) (t ++ 125 ∷ rest) ≡ run (Some Closed) rest
pattern_more [] rest h = refl
pattern_more (c ∷ cs) rest h =
    taken (Some InPattern) InPattern c (rw (not_true (c == 125) (both_left _ _ h)) refl) (cs ++ 125 ∷ rest) ∙ pattern_more cs rest (both_right _ _ h)

-- ---- values

-- what may end in a state of this part, whatever follows
abbrev Reaches : Part → Option State → List ℕ → Type 0
Reaches p o cs = (e : Option State) × Ends p e × ((rest : List ℕ) → run o (cs ++ rest) ≡ run e rest)

-- one character, and what is reached after it
prefixed : (p : Part) (o : Option State) (s : State) (c : ℕ) (cs : List ℕ) → step_at o c ≡ Some s → Reaches p (Some s) cs → Reaches p o (c ∷ cs)
prefixed p o s c cs h r = (r.0, r.1, λ rest. taken o s c h (cs ++ rest) ∙ r.2 rest)

-- characters that lead to a state, and what is reached after them
joined : (p : Part) (o m : Option State) (xs ys : List ℕ) → ((rest : List ℕ) → run o (xs ++ rest) ≡ run m rest) → Reaches p m ys → Reaches p o (xs ++ ys)
joined p o m xs ys f r = (r.0, r.1, λ rest. rw (append_assoc xs ys rest) (f (ys ++ rest) ∙ r.2 rest))

-- a value that is no pattern may begin here
pub record Values (o : Option State) : Type 0 where
  pub minus : step_at o 45 ≡ Some AfterMinus
  pub quote : step_at o 34 ≡ Some InText
  pub digit : (c : ℕ) → is_ascii_digit c ≡ true → step_at o c ≡ Some (InWhole 1)

pub value_digit : (c : ℕ) → is_ascii_digit c ≡ true → step AfterCompare c ≡ Some (InWhole 1)
value_digit c h = let low : 48 ≤ c = grind (arith, nat_tests) in rw h (grind (arith, nat_tests))

pub values_compare : Values (Some AfterCompare)
values_compare = record { minus = refl; quote = refl; digit = value_digit }

pub values_less : Values (Some AfterLess)
values_less = record { minus = refl; quote = refl; digit = λ c h. let high : c ≤ 57 = grind (arith, nat_tests) in grind (arith, nat_tests, value_digit c h) }

pub values_greater : Values (Some AfterGreater)
values_greater = record { minus = refl; quote = refl; digit = λ c h. let high : c ≤ 57 = grind (arith, nat_tests) in grind (arith, nat_tests, value_digit c h) }

pub values_equal : Values (Some AfterEqual)
values_equal = record { minus = refl; quote = refl; digit = λ c h. let high : c ≤ 57 = grind (arith, nat_tests) in grind (arith, nat_tests, value_digit c h) }

pub point_digit : (c : ℕ) → is_ascii_digit c ≡ true → step AfterPoint c ≡ Some (InFraction 1)
point_digit c h = rw h refl

-- digits after the first, and a point with digits
digits_run : (ds fraction : List ℕ) (n : ℕ) → n + length ds ≤ 18 → list_all is_ascii_digit ds ≡ true → length fraction ≤ 9 → list_all is_ascii_digit fraction ≡ true →
    Reaches InTags (Some (InWhole n)) (ds ++ spell_fraction fraction)
digits_run ds [] n l h lf hf =
    joined InTags (Some (InWhole n)) (Some (InWhole (n + length ds))) ds [] (λ rest. whole_more ds n rest l h)
    (Some (InWhole (n + length ds)), ends_whole _, λ rest. refl)
digits_run ds (f ∷ fs) n l h lf hf =
    joined InTags (Some (InWhole n)) (Some (InWhole (n + length ds))) ds (46 ∷ f ∷ fs) (λ rest. whole_more ds n rest l h)
    (prefixed InTags (Some (InWhole (n + length ds))) AfterPoint 46 (f ∷ fs) refl
    (prefixed InTags (Some AfterPoint) (InFraction 1) f fs (point_digit f (both_left _ _ hf))
    (Some (InFraction (1 + length fs)), ends_fraction _, λ rest. fraction_more fs 1 rest (omega arith) (both_right _ _ hf))))

number_run : (o : Option State) → ((c : ℕ) → is_ascii_digit c ≡ true → step_at o c ≡ Some (InWhole 1)) → (whole fraction : List ℕ) → 0 < length whole → length whole ≤ 18 →
    list_all is_ascii_digit whole ≡ true → length fraction ≤ 9 → list_all is_ascii_digit fraction ≡ true →
    Reaches InTags o (whole ++ spell_fraction fraction)
number_run o first [] fraction some l h lf hf = absurd (omega arith)
number_run o first (d ∷ ds) fraction some l h lf hf =
    prefixed InTags o (InWhole 1) d (ds ++ spell_fraction fraction) (first d (both_left _ _ h))
    (digits_run ds fraction 1 (omega arith) (both_right _ _ h) lf hf)

pub minus_digit : (c : ℕ) → is_ascii_digit c ≡ true → step AfterMinus c ≡ Some (InWhole 1)
minus_digit c h = rw h refl

quoted_run : (text : List ℕ) → Lacks 34 text → Reaches InTags (Some InText) (text ++ 34 ∷ [])
quoted_run text h = (Some Closed, ends_closed, λ rest. rw (append_assoc text (34 ∷ []) rest) (text_more text rest h))

pattern_run : (text : List ℕ) → Lacks 125 text → Reaches InTags (Some InPattern) (text ++ 125 ∷ [])
pattern_run text h = (Some Closed, ends_closed, λ rest. rw (append_assoc text (125 ∷ []) rest) (pattern_more text rest h))

value_run : (o : Option State) (op : Op) (v : Value) → Values o → (takes_pattern op ≡ true → step_at o 123 ≡ Some InPattern) → IsValue op v →
    Reaches InTags o (spell_value v)
value_run o op (Number true whole fraction) values braces h =
    prefixed InTags o AfterMinus 45 (whole ++ spell_fraction fraction) values.minus
    (number_run (Some AfterMinus) minus_digit whole fraction h.0 h.1 h.2 h.3 h.4)
value_run o op (Number false whole fraction) values braces h = number_run o values.digit whole fraction h.0 h.1 h.2 h.3 h.4
value_run o op (Quoted text) values braces h = prefixed InTags o InText 34 (text ++ 34 ∷ []) values.quote (quoted_run text h)
value_run o op (Pattern text) values braces h = prefixed InTags o InPattern 123 (text ++ 125 ∷ []) (braces h.0) (pattern_run text h.1)

-- an operator and a value, after a name
compare_run : (op : Op) (v : Value) → IsValue op v → Reaches InTags (Some (InName InTags)) (spell_op op ++ spell_value v)
compare_run Less v h = prefixed InTags (Some (InName InTags)) AfterLess 60 (spell_value v) refl (value_run (Some AfterLess) Less v values_less (λ e. cc) h)
compare_run Equal v h = prefixed InTags (Some (InName InTags)) AfterEqual 61 (spell_value v) refl (value_run (Some AfterEqual) Equal v values_equal (λ e. refl) h)
compare_run Greater v h = prefixed InTags (Some (InName InTags)) AfterGreater 62 (spell_value v) refl (value_run (Some AfterGreater) Greater v values_greater (λ e. cc) h)
compare_run AtMost v h =
    prefixed InTags (Some (InName InTags)) AfterLess 60 (61 ∷ spell_value v) refl
    (prefixed InTags (Some AfterLess) AfterCompare 61 (spell_value v) refl (value_run (Some AfterCompare) AtMost v values_compare (λ e. cc) h))
compare_run AtLeast v h =
    prefixed InTags (Some (InName InTags)) AfterGreater 62 (61 ∷ spell_value v) refl
    (prefixed InTags (Some AfterGreater) AfterCompare 61 (spell_value v) refl (value_run (Some AfterCompare) AtLeast v values_compare (λ e. cc) h))
compare_run Differs v h =
    prefixed InTags (Some (InName InTags)) AfterLess 60 (62 ∷ spell_value v) refl
    (prefixed InTags (Some AfterLess) AfterEqual 62 (spell_value v) refl (value_run (Some AfterEqual) Differs v values_equal (λ e. refl) h))

-- ---- terms and items

term_run : (o : Option State) (t : Term) → Opens InTags o → IsTerm t → Reaches InTags o (spell_term t)
term_run o (Tag name) opens h = (Some (InName InTags), ends_name InTags, λ rest. name_run InTags o opens name rest h)
term_run o (Found pattern) opens h = prefixed InTags o InPattern 123 (pattern ++ 125 ∷ []) (opens.brace refl) (pattern_run pattern h)
term_run o (Compare name op v) opens h =
    joined InTags o (Some (InName InTags)) (spell_name name) (spell_op op ++ spell_value v) (λ rest. name_run InTags o opens name rest h.0) (compare_run op v h.1)

term_run_in : (p : Part) (o : Option State) (t : Term) → Opens p o → IsTermIn p t → Reaches p o (spell_term t)
term_run_in InTags o t opens h = term_run o t opens h
term_run_in InTodo o (Tag name) opens h = (Some (InName InTodo), ends_name InTodo, λ rest. name_run InTodo o opens name rest h)
term_run_in InTodo o (Found pattern) opens h = absurd h
term_run_in InTodo o (Compare name op v) opens h = absurd h

-- a sign or none, and a term
signed_run : (p : Part) (o : Option State) (s : Sign) (t : Term) → Signs p o → Opens p o → IsTermIn p t → Reaches p o (spell_sign s ++ spell_term t)
signed_run p o Unsigned t signs opens h = term_run_in p o t opens h
signed_run p o Plus t signs opens h = prefixed p o (Signed p) 43 (spell_term t) signs.plus (term_run_in p (Some (Signed p)) t (opens_signed p) h)
signed_run p o Minus t signs opens h = prefixed p o (Signed p) 45 (spell_term t) signs.minus (term_run_in p (Some (Signed p)) t (opens_signed p) h)

item_run : (p : Part) (o : Option State) (l : Link) (s : Sign) (t : Term) → Ends p o → IsLink l s → IsTermIn p t → Reaches p o (spell_item (item l s t))
item_run p o Direct Unsigned t ends l h = absurd (l refl)
item_run p o Direct Plus t ends l h = prefixed p o (Signed p) 43 (spell_term t) ends.signs.plus (term_run_in p (Some (Signed p)) t (opens_signed p) h)
item_run p o Direct Minus t ends l h = prefixed p o (Signed p) 45 (spell_term t) ends.signs.minus (term_run_in p (Some (Signed p)) t (opens_signed p) h)
item_run p o And s t ends l h =
    prefixed p o (Linked p) 38 (spell_sign s ++ spell_term t) ends.and (signed_run p (Some (Linked p)) s t (signs_linked p) (opens_linked p) h)
item_run p o Or s t ends l h =
    prefixed p o (Linked p) 124 (spell_sign s ++ spell_term t) ends.or (signed_run p (Some (Linked p)) s t (signs_linked p) (opens_linked p) h)

later_run : (p : Part) (o : Option State) (is : List Item) → Ends p o → AreLater p is → Reaches p o (spell_items is)
later_run p o [] ends h = (o, ends, λ rest. refl)
later_run p o (item l s t ∷ is) ends h =
    let r = item_run p o l s t ends h.0 h.1 in
    joined p o r.0 (spell_item (item l s t)) (spell_items is) r.2 (later_run p r.0 is r.1 h.2)

items_run : (p : Part) (o : Option State) (is : List Item) → Signs p o → Opens p o → AreItems p is → Reaches p o (spell_items is)
items_run p o [] signs opens h = absurd h
items_run p o (item And s t ∷ is) signs opens h = absurd h
items_run p o (item Or s t ∷ is) signs opens h = absurd h
items_run p o (item Direct s t ∷ is) signs opens h =
    let r = signed_run p o s t signs opens h.0 in
    joined p o r.0 (spell_sign s ++ spell_term t) (spell_items is) r.2 (later_run p r.0 is r.1 h.1)

-- up to the slash
slash_run : (tags : List Item) → AreItemsOrNone InTags tags → (cs : List ℕ) → run (Some Start) (spell_items tags ++ 47 ∷ cs) ≡ run (Some AfterSlash) cs
slash_run [] h cs = refl
slash_run (i ∷ is) h cs =
    let r = items_run InTags (Some Start) (i ∷ is) signs_start opens_start h in
    r.2 (47 ∷ cs) ∙ taken r.0 AfterSlash 47 (r.1.slash refl) cs

last : (p : Part) (o : Option State) (cs : List ℕ) → Reaches p o cs → is_final_at (run o cs) ≡ true
last p o cs r = ap is_final_at (ap (run o) (sym (append-nil cs)) ∙ r.2 []) ∙ r.1.final

bang_last : (todo : List Item) → AreItemsOrNone InTodo todo → is_final_at (run (Some AfterBang) (spell_items todo)) ≡ true
bang_last [] h = refl
bang_last (i ∷ is) h = last InTodo (Some AfterBang) (spell_items (i ∷ is)) (items_run InTodo (Some AfterBang) (i ∷ is) signs_bang opens_bang h)

-- each expression is taken to its end
pub accepts : (e : Expr) → IsExpr e → is_final_at (run (Some Start) (spell e)) ≡ true
accepts (Tags tags) h = last InTags (Some Start) (spell_items tags) (items_run InTags (Some Start) tags signs_start opens_start h)
accepts (Todo tags todo) h =
    ap is_final_at (slash_run tags h.0 (spell_items todo))
    ∙ last InTodo (Some AfterSlash) (spell_items todo) (items_run InTodo (Some AfterSlash) todo signs_slash opens_slash h.1)
accepts (Open tags todo) h = ap is_final_at (slash_run tags h.0 (33 ∷ spell_items todo)) ∙ bang_last todo h.1
