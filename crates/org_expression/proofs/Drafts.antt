-- What is read of a spelled expression is the expression.
use Rattle.std.specs.Char.{is_ascii_digit}
use Rattle.std.proofs.Common.{◌≡◌, ℕ, suc, ◌+◌, ◌≤◌, Bool, true, false, cond, ◌||◌, List, [], ◌∷◌, ◌++◌, length, Option, None, Some, refl, ap, ap₂, ◌∙◌, sym, arith, append_assoc, append-nil, subst}
use Rattle.std.specs.Prelude.{◌==◌}
use Rattle.std.specs.List.{list_all}
use Rattle.std.proofs.lemmas.Bool.Decides.{nat_tests}
use Rattle.org_base.specs.Characters.{is_tag_char}
use Rattle.org_expression.specs.Grammar.{Link, Direct, And, Or, Sign, Unsigned, Plus, Minus, Op, Less, Equal, Greater, AtMost, AtLeast, Differs, Value, Number, Quoted, Pattern, Term, Tag, Found, Compare, Item, item, Expr, Tags, Todo, Open, spell_sign, spell_op, spell_name, spell_fraction, spell_value, spell_term, spell_item, spell_items, spell, IsName, Lacks, takes_pattern, IsValue, IsTermIn, IsLink, AreLater, AreItems, AreItemsOrNone, IsExpr, Reads}
use Rattle.org_expression.proofs.GrammarWords.{is_name_char}
use Rattle.org_expression.specs.declared.state.Part.{Part}
use Rattle.org_expression.specs.declared.state.Part.TheVariants.{InTags, InTodo}
use Rattle.org_expression.specs.declared.state.State.{State}
use Rattle.org_expression.specs.declared.state.State.TheVariants.{Start, Linked, Signed, InName, Escaped, InPattern, Closed, AfterLess, AfterGreater, AfterCompare, AfterEqual, AfterMinus, InWhole, AfterPoint, InFraction, InText, AfterSlash, AfterBang}
use Rattle.org_expression.specs.Automaton.{step, step_at, run, is_final_at}
use Rattle.org_expression.specs.Draft.{JustTags, WithTodo, WithOpen, AsTag, AsFound, AsNumber, AsQuoted, AsPattern, Draft, empty_draft, term_of, Parts, extend, open_parts, parts_of, with_parts, with_todo, expr_of, begin, follow, begin_value, absorb, absorb_at, advance, finished, read_all}
use Rattle.org_expression.proofs.Accepts.{Opens, Signs, Ends, Values, opens_start, opens_linked, opens_signed, opens_slash, opens_bang, signs_start, signs_linked, signs_slash, signs_bang, ends_name, ends_closed, ends_whole, ends_fraction, name_word, both_left, both_right, digit_more, fraction_digit, not_true, point_digit, minus_digit, values_compare, values_less, values_greater, values_equal}
use Rattle.org_expression.proofs.Live.{expr_of as expr_is}
use Rattle.org_expression.proofs.Marks.{no_mark, no_word-plus, no_word-minus, no_word-and, no_word-or, no_word-slash}

begin_word : (c : ℕ) (d : Draft) → is_tag_char c ≡ true → begin c d ≡ record d { name = c ∷ []; shape = AsTag }
begin_word c d h = let m = no_mark c h in grind (arith, nat_tests, m.plus, m.minus, m.slash, m.bang, m.backslash, m.brace)

name_absorb : (p : Part) (c : ℕ) (d : Draft) → is_tag_char c ≡ true → absorb (InName p) c d ≡ record d { name = d.name ++ c ∷ [] }
name_absorb p c d h = let m = no_mark c h in grind (arith, nat_tests, h, m.less, m.equal, m.greater, m.backslash)

-- after a term each mark is taken alike
pub record Follows (o : Option State) : Type 0 where
  pub plus : (d : Draft) → absorb_at o 43 d ≡ follow 43 d
  pub minus : (d : Draft) → absorb_at o 45 d ≡ follow 45 d
  pub and : (d : Draft) → absorb_at o 38 d ≡ follow 38 d
  pub or : (d : Draft) → absorb_at o 124 d ≡ follow 124 d
  pub slash : (d : Draft) → absorb_at o 47 d ≡ follow 47 d

follows_name : (p : Part) → Follows (Some (InName p))
follows_name p = record {
  plus = λ d. rw no_word-plus refl;
  minus = λ d. rw no_word-minus refl;
  and = λ d. rw no_word-and refl;
  or = λ d. rw no_word-or refl;
  slash = λ d. rw no_word-slash refl;
}

follows_closed : Follows (Some Closed)
follows_closed = record { plus = λ d. refl; minus = λ d. refl; and = λ d. refl; or = λ d. refl; slash = λ d. refl }

follows_whole : (n : ℕ) → Follows (Some (InWhole n))
follows_whole n = record { plus = λ d. refl; minus = λ d. refl; and = λ d. refl; or = λ d. refl; slash = λ d. refl }

follows_fraction : (n : ℕ) → Follows (Some (InFraction n))
follows_fraction n = record { plus = λ d. refl; minus = λ d. refl; and = λ d. refl; or = λ d. refl; slash = λ d. refl }

-- the characters lead from a state and a draft to others, whatever stands after them
abbrev Goes : Option State → Draft → List ℕ → Option State → Draft → Type 0
Goes o d cs e f = (rest : List ℕ) → (run o (cs ++ rest) ≡ run e rest) × (advance o d (cs ++ rest) ≡ advance e f rest)

goes_cons : (o m : Option State) (d f : Draft) (c : ℕ) (cs : List ℕ) (e : Option State) (g : Draft) → step_at o c ≡ m → absorb_at o c d ≡ f →
    Goes m f cs e g → Goes o d (c ∷ cs) e g
goes_cons o m d f c cs e g h k r = λ rest. (ap (λ q. run q (cs ++ rest)) h ∙ (r rest).0, ap₂ (λ q w. advance q w (cs ++ rest)) h k ∙ (r rest).1)

goes_then : (o m : Option State) (d f : Draft) (xs ys : List ℕ) (e : Option State) (g : Draft) → Goes o d xs m f → Goes m f ys e g → Goes o d (xs ++ ys) e g
goes_then o m d f xs ys e g p q = λ rest.
    (ap (run o) (append_assoc xs ys rest) ∙ (p (ys ++ rest)).0 ∙ (q rest).0, ap (advance o d) (append_assoc xs ys rest) ∙ (p (ys ++ rest)).1 ∙ (q rest).1)

goes_nil : (o : Option State) (d f : Draft) → d ≡ f → Goes o d [] o f
goes_nil o d f e = λ rest. (refl, ap (λ q. advance o q rest) e)

-- ---- names

backslash_step : (p : Part) → step (InName p) 92 ≡ Some (Escaped p)
backslash_step InTags = refl
backslash_step InTodo = refl

char_goes : (p : Part) (o : Option State) (d b : Draft) → step_at o 92 ≡ Some (Escaped p) → absorb_at o 92 d ≡ b →
    ((c : ℕ) → is_tag_char c ≡ true → step_at o c ≡ Some (InName p)) → ((c : ℕ) → is_tag_char c ≡ true → absorb_at o c d ≡ record b { name = b.name ++ c ∷ [] }) →
    (t : Bool) (c : ℕ) → (c == 45) ≡ t → (is_tag_char c || t) ≡ true → (ys : List ℕ) (e : Option State) (g : Draft) →
    Goes (Some (InName p)) (record b { name = b.name ++ c ∷ [] }) ys e g → Goes o d (cond t (92 ∷ 45 ∷ ys) (c ∷ ys)) e g
char_goes p o d b esc escd word wordd true c f k ys e g later =
    let is_minus : c ≡ 45 = grind (arith, nat_tests) in
    goes_cons o (Some (Escaped p)) d b 92 (45 ∷ ys) e g esc escd
    (goes_cons (Some (Escaped p)) (Some (InName p)) b (record b { name = b.name ++ 45 ∷ [] }) 45 ys e g refl refl
    (subst (λ q. Goes (Some (InName p)) (record b { name = b.name ++ q ∷ [] }) ys e g) is_minus later))
char_goes p o d b esc escd word wordd false c f k ys e g later =
    let is_word : is_tag_char c ≡ true = grind (arith, nat_tests) in
    goes_cons o (Some (InName p)) d (record b { name = b.name ++ c ∷ [] }) c ys e g (word c is_word) (wordd c is_word) later

name_goes : (p : Part) (name : List ℕ) (d : Draft) (n : List ℕ) → list_all is_name_char name ≡ true → d.name ++ name ≡ n →
    Goes (Some (InName p)) d (spell_name name) (Some (InName p)) (record d { name = n })
name_goes p [] d n h e = goes_nil (Some (InName p)) d (record d { name = n }) (ap (λ q. record d { name = q }) (sym (append-nil d.name) ∙ e))
name_goes p (c ∷ cs) d n h e =
    char_goes p (Some (InName p)) d d (backslash_step p) refl (name_word p) (λ x k. name_absorb p x d k) (c == 45) c refl (both_left _ _ h) (spell_name cs)
    (Some (InName p)) (record d { name = n })
    (name_goes p cs (record d { name = d.name ++ c ∷ [] }) n (both_right _ _ h) (append_assoc d.name (c ∷ []) cs ∙ e))

-- a state where a term begins takes characters so
abbrev Begins : Option State → Type 0
Begins o = (c : ℕ) (d : Draft) → absorb_at o c d ≡ begin c d

first_goes : (p : Part) (o : Option State) → Opens p o → Begins o → (name : List ℕ) (d : Draft) → IsName name →
    Goes o d (spell_name name) (Some (InName p)) (record d { name = name; shape = AsTag })
first_goes p o opens begins [] d h = absurd (h.0 refl)
first_goes p o opens begins (c ∷ cs) d h =
    char_goes p o d (record d { name = []; shape = AsTag }) opens.backslash (begins 92 d) opens.word (λ x k. begins x d ∙ begin_word x d k)
    (c == 45) c refl (both_left _ _ h.1) (spell_name cs) (Some (InName p)) (record d { name = c ∷ cs; shape = AsTag })
    (name_goes p cs (record d { name = c ∷ []; shape = AsTag }) (c ∷ cs) (both_right _ _ h.1) refl)

-- ---- digits, texts, patterns

whole_goes : (ds : List ℕ) (n : ℕ) (d : Draft) (w : List ℕ) → n + length ds ≤ 18 → list_all is_ascii_digit ds ≡ true → d.whole ++ ds ≡ w →
    Goes (Some (InWhole n)) d ds (Some (InWhole (n + length ds))) (record d { whole = w })
whole_goes [] n d w l h e =
    let same : n + 0 ≡ n = omega arith in
    rw same (goes_nil (Some (InWhole n)) d (record d { whole = w }) (ap (λ q. record d { whole = q }) (sym (append-nil d.whole) ∙ e)))
whole_goes (c ∷ ds) n d w l h e =
    let same : n + suc (length ds) ≡ n + 1 + length ds = omega arith in
    rw same (goes_cons (Some (InWhole n)) (Some (InWhole (n + 1))) d (record d { whole = d.whole ++ c ∷ [] }) c ds _ _
    (digit_more n c (both_left _ _ h) (omega arith)) (rw (both_left (is_ascii_digit c) _ h) refl)
    (whole_goes ds (n + 1) (record d { whole = d.whole ++ c ∷ [] }) w (omega arith) (both_right _ _ h) (append_assoc d.whole (c ∷ []) ds ∙ e)))

fraction_goes : (ds : List ℕ) (n : ℕ) (d : Draft) (w : List ℕ) → n + length ds ≤ 9 → list_all is_ascii_digit ds ≡ true → d.fraction ++ ds ≡ w →
    Goes (Some (InFraction n)) d ds (Some (InFraction (n + length ds))) (record d { fraction = w })
fraction_goes [] n d w l h e =
    let same : n + 0 ≡ n = omega arith in
    rw same (goes_nil (Some (InFraction n)) d (record d { fraction = w }) (ap (λ q. record d { fraction = q }) (sym (append-nil d.fraction) ∙ e)))
fraction_goes (c ∷ ds) n d w l h e =
    let same : n + suc (length ds) ≡ n + 1 + length ds = omega arith in
    rw same (goes_cons (Some (InFraction n)) (Some (InFraction (n + 1))) d (record d { fraction = d.fraction ++ c ∷ [] }) c ds _ _
    (fraction_digit n c (both_left _ _ h) (omega arith)) (rw (both_left (is_ascii_digit c) _ h) refl)
    (fraction_goes ds (n + 1) (record d { fraction = d.fraction ++ c ∷ [] }) w (omega arith) (both_right _ _ h) (append_assoc d.fraction (c ∷ []) ds ∙ e)))

text_goes : (t : List ℕ) (d : Draft) (w : List ℕ) → Lacks 34 t → d.text ++ t ≡ w → Goes (Some InText) d (t ++ 34 ∷ []) (Some Closed) (record d { text = w })
text_goes [] d w h e = λ rest. (refl, ap (λ q. advance (Some Closed) q rest) (ap (λ q. record d { text = q }) (sym (append-nil d.text) ∙ e)))
text_goes (c ∷ cs) d w h e =
    goes_cons (Some InText) (Some InText) d (record d { text = d.text ++ c ∷ [] }) c (cs ++ 34 ∷ []) _ _
    (rw (not_true (c == 34) (both_left _ _ h)) refl) (rw (not_true (c == 34) (both_left _ _ h)) refl)
    (text_goes cs (record d { text = d.text ++ c ∷ [] }) w (both_right _ _ h) (append_assoc d.text (c ∷ []) cs ∙ e))

pattern_goes : (t : List ℕ) (d : Draft) (w : List ℕ) → Lacks 125 t → d.text ++ t ≡ w → Goes (Some InPattern) d (t ++ 125 ∷ []) (Some Closed) (record d { text = w })
pattern_goes [] d w h e = λ rest. (refl, ap (λ q. advance (Some Closed) q rest) (ap (λ q. record d { text = q }) (sym (append-nil d.text) ∙ e)))
pattern_goes (c ∷ cs) d w h e =
    goes_cons (Some InPattern) (Some InPattern) d (record d { text = d.text ++ c ∷ [] }) c (cs ++ 125 ∷ []) _ _
    (rw (not_true (c == 125) (both_left _ _ h)) refl) (rw (not_true (c == 125) (both_left _ _ h)) refl)
    (pattern_goes cs (record d { text = d.text ++ c ∷ [] }) w (both_right _ _ h) (append_assoc d.text (c ∷ []) cs ∙ e))

-- ---- values

-- a term is read whole: where that leads, and what the draft then holds
record Ready (p : Part) (o : Option State) (d : Draft) (cs : List ℕ) (t : Term) : Type 0 where
  at : Option State
  draft : Draft
  ends : Ends p at
  follows : Follows at
  parts : open_parts draft ≡ open_parts d
  link : draft.link ≡ d.link
  sign : draft.sign ≡ d.sign
  term : term_of draft ≡ t
  goes : Goes o d cs at draft

-- how the draft takes the first character of a value
record Takes (o : Option State) : Type 0 where
  minus : (d : Draft) → absorb_at o 45 d ≡ begin_value 45 d
  quote : (d : Draft) → absorb_at o 34 d ≡ begin_value 34 d
  digit : (c : ℕ) (d : Draft) → is_ascii_digit c ≡ true → absorb_at o c d ≡ begin_value c d

takes_compare : Takes (Some AfterCompare)
takes_compare = record { minus = λ d. refl; quote = λ d. refl; digit = λ c d h. refl }

takes_equal : Takes (Some AfterEqual)
takes_equal = record { minus = λ d. refl; quote = λ d. refl; digit = λ c d h. refl }

no_op : (c m : ℕ) → is_ascii_digit c ≡ true → 58 ≤ m → (c == m) ≡ false
no_op c m h l = let high : c ≤ 57 = grind (arith, nat_tests) in grind (arith, nat_tests)

takes_less : Takes (Some AfterLess)
takes_less = record {
  minus = λ d. refl;
  quote = λ d. refl;
  digit = λ c d h. rw (no_op c 61 h (omega arith), no_op c 62 h (omega arith)) refl;
}

takes_greater : Takes (Some AfterGreater)
takes_greater = record { minus = λ d. refl; quote = λ d. refl; digit = λ c d h. rw (no_op c 61 h (omega arith)) refl }

begin_digit : (c : ℕ) (d : Draft) → is_ascii_digit c ≡ true → begin_value c d ≡ record d { shape = AsNumber; is_negative = false; whole = c ∷ []; fraction = [] }
begin_digit c d h =
    let low : 48 ≤ c = grind (arith, nat_tests) in
    let high : c ≤ 57 = grind (arith, nat_tests) in
    let a : (c == 45) ≡ false = grind (arith, nat_tests) in
    let b : (c == 34) ≡ false = grind (arith, nat_tests) in
    rw (a, b, no_op c 123 h (omega arith)) refl

-- the digits after the first, where none stands after the point yet
digits_ready : (d : Draft) (c : ℕ) (ds fs : List ℕ) → length ds ≤ 17 → list_all is_ascii_digit ds ≡ true → length fs ≤ 9 → list_all is_ascii_digit fs ≡ true →
    Ready InTags (Some (InWhole 1)) (record d { shape = AsNumber; whole = c ∷ []; fraction = [] }) (ds ++ spell_fraction fs)
    (Compare d.name d.op (Number d.is_negative (c ∷ ds) fs))
digits_ready d c ds [] l h lf hf = record {
  at = Some (InWhole (1 + length ds));
  draft = record d { shape = AsNumber; whole = c ∷ ds; fraction = [] };
  ends = ends_whole _;
  follows = follows_whole _;
  parts = refl;
  link = refl;
  sign = refl;
  term = refl;
  goes =
      goes_then (Some (InWhole 1)) (Some (InWhole (1 + length ds))) (record d { shape = AsNumber; whole = c ∷ []; fraction = [] })
      (record d { shape = AsNumber; whole = c ∷ ds; fraction = [] }) ds [] (Some (InWhole (1 + length ds))) (record d { shape = AsNumber; whole = c ∷ ds; fraction = [] })
      (whole_goes ds 1 (record d { shape = AsNumber; whole = c ∷ []; fraction = [] }) (c ∷ ds) (omega arith) h refl)
      (goes_nil _ _ _ refl);
}
digits_ready d c ds (f ∷ fs) l h lf hf = record {
  at = Some (InFraction (1 + length fs));
  draft = record d { shape = AsNumber; whole = c ∷ ds; fraction = f ∷ fs };
  ends = ends_fraction _;
  follows = follows_fraction _;
  parts = refl;
  link = refl;
  sign = refl;
  term = refl;
  goes =
      goes_then (Some (InWhole 1)) (Some (InWhole (1 + length ds))) (record d { shape = AsNumber; whole = c ∷ []; fraction = [] })
      (record d { shape = AsNumber; whole = c ∷ ds; fraction = [] }) ds (46 ∷ f ∷ fs) (Some (InFraction (1 + length fs))) (record d { shape = AsNumber; whole = c ∷ ds; fraction = f ∷ fs })
      (whole_goes ds 1 (record d { shape = AsNumber; whole = c ∷ []; fraction = [] }) (c ∷ ds) (omega arith) h refl)
      (goes_cons (Some (InWhole (1 + length ds))) (Some AfterPoint) (record d { shape = AsNumber; whole = c ∷ ds; fraction = [] }) (record d { shape = AsNumber; whole = c ∷ ds; fraction = [] }) 46 (f ∷ fs) _ _ refl refl
      (goes_cons (Some AfterPoint) (Some (InFraction 1)) (record d { shape = AsNumber; whole = c ∷ ds; fraction = [] }) (record d { shape = AsNumber; whole = c ∷ ds; fraction = f ∷ [] }) f fs _ _ (point_digit f (both_left _ _ hf)) refl
      (fraction_goes fs 1 (record d { shape = AsNumber; whole = c ∷ ds; fraction = f ∷ [] }) (f ∷ fs) (omega arith) (both_right _ _ hf) refl)));
}

-- one character before what is read whole
ready_cons : (p : Part) (o m : Option State) (d f : Draft) (c : ℕ) (cs : List ℕ) (t : Term) → step_at o c ≡ m → absorb_at o c d ≡ f →
    open_parts f ≡ open_parts d → f.link ≡ d.link → f.sign ≡ d.sign → Ready p m f cs t → Ready p o d (c ∷ cs) t
ready_cons p o m d f c cs t h k parts link sign r = record {
  at = r.at;
  draft = r.draft;
  ends = r.ends;
  follows = r.follows;
  parts = r.parts ∙ parts;
  link = r.link ∙ link;
  sign = r.sign ∙ sign;
  term = r.term;
  goes = goes_cons o m d f c cs r.at r.draft h k r.goes;
}

ready_then : (p : Part) (o m : Option State) (d f : Draft) (xs ys : List ℕ) (t : Term) → Goes o d xs m f →
    open_parts f ≡ open_parts d → f.link ≡ d.link → f.sign ≡ d.sign → Ready p m f ys t → Ready p o d (xs ++ ys) t
ready_then p o m d f xs ys t g parts link sign r = record {
  at = r.at;
  draft = r.draft;
  ends = r.ends;
  follows = r.follows;
  parts = r.parts ∙ parts;
  link = r.link ∙ link;
  sign = r.sign ∙ sign;
  term = r.term;
  goes = goes_then o m d f xs ys r.at r.draft g r.goes;
}

-- a term that a bracket closes
ready_closed : (o : Option State) (d f : Draft) (cs : List ℕ) (t : Term) → Goes o d cs (Some Closed) f → open_parts f ≡ open_parts d → f.link ≡ d.link → f.sign ≡ d.sign →
    term_of f ≡ t → Ready InTags o d cs t
ready_closed o d f cs t g parts link sign term = record {
  at = Some Closed;
  draft = f;
  ends = ends_closed;
  follows = follows_closed;
  parts = parts;
  link = link;
  sign = sign;
  term = term;
  goes = g;
}

value_ready : (o : Option State) (d : Draft) (v : Value) → Values o → Takes o →
    (takes_pattern d.op ≡ true → (step_at o 123 ≡ Some InPattern) × (absorb_at o 123 d ≡ begin_value 123 d)) → IsValue d.op v →
    Ready InTags o d (spell_value v) (Compare d.name d.op v)
value_ready o d (Number n [] fs) values takes braces h = absurd (omega arith)
value_ready o d (Number true (c ∷ ds) fs) values takes braces h =
    ready_cons InTags o (Some AfterMinus) d (record d { shape = AsNumber; is_negative = true; whole = []; fraction = [] }) 45 (c ∷ (ds ++ spell_fraction fs)) _
    values.minus (takes.minus d) refl refl refl
    (ready_cons InTags (Some AfterMinus) (Some (InWhole 1)) (record d { shape = AsNumber; is_negative = true; whole = []; fraction = [] }) (record d { shape = AsNumber; is_negative = true; whole = c ∷ []; fraction = [] }) c (ds ++ spell_fraction fs) _
    (minus_digit c (both_left _ _ h.2)) refl refl refl refl
    (digits_ready (record d { is_negative = true }) c ds fs (omega arith) (both_right _ _ h.2) h.3 h.4))
value_ready o d (Number false (c ∷ ds) fs) values takes braces h =
    ready_cons InTags o (Some (InWhole 1)) d (record d { shape = AsNumber; is_negative = false; whole = c ∷ []; fraction = [] }) c (ds ++ spell_fraction fs) _
    (values.digit c (both_left _ _ h.2)) (takes.digit c d (both_left _ _ h.2) ∙ begin_digit c d (both_left _ _ h.2)) refl refl refl
    (digits_ready (record d { is_negative = false }) c ds fs (omega arith) (both_right _ _ h.2) h.3 h.4)
value_ready o d (Quoted text) values takes braces h =
    ready_cons InTags o (Some InText) d (record d { shape = AsQuoted; text = [] }) 34 (text ++ 34 ∷ []) _ values.quote (takes.quote d) refl refl refl
    (ready_closed (Some InText) (record d { shape = AsQuoted; text = [] }) (record d { shape = AsQuoted; text = text }) _ _ (text_goes text (record d { shape = AsQuoted; text = [] }) text h refl) refl refl refl refl)
value_ready o d (Pattern text) values takes braces h =
    ready_cons InTags o (Some InPattern) d (record d { shape = AsPattern; text = [] }) 123 (text ++ 125 ∷ []) _ (braces h.0).0 (braces h.0).1 refl refl refl
    (ready_closed (Some InPattern) (record d { shape = AsPattern; text = [] }) (record d { shape = AsPattern; text = text }) _ _ (pattern_goes text (record d { shape = AsPattern; text = [] }) text h.1 refl) refl refl refl refl)

no_brace : {X : Type 0} (op : Op) → takes_pattern op ≡ false → takes_pattern op ≡ true → X
no_brace op h k = let bad : false ≡ true = sym h ∙ k in absurd cc

-- an operator and a value, after a name
compare_ready : (op : Op) (v : Value) (d : Draft) → IsValue op v → Ready InTags (Some (InName InTags)) d (spell_op op ++ spell_value v) (Compare d.name op v)
compare_ready Less v d h =
    ready_cons InTags (Some (InName InTags)) (Some AfterLess) d (record d { op = Less }) 60 (spell_value v) _ refl refl refl refl refl
    (value_ready (Some AfterLess) (record d { op = Less }) v values_less takes_less (no_brace Less refl) h)
compare_ready Equal v d h =
    ready_cons InTags (Some (InName InTags)) (Some AfterEqual) d (record d { op = Equal }) 61 (spell_value v) _ refl refl refl refl refl
    (value_ready (Some AfterEqual) (record d { op = Equal }) v values_equal takes_equal (λ e. (refl, refl)) h)
compare_ready Greater v d h =
    ready_cons InTags (Some (InName InTags)) (Some AfterGreater) d (record d { op = Greater }) 62 (spell_value v) _ refl refl refl refl refl
    (value_ready (Some AfterGreater) (record d { op = Greater }) v values_greater takes_greater (no_brace Greater refl) h)
compare_ready AtMost v d h =
    ready_cons InTags (Some (InName InTags)) (Some AfterLess) d (record d { op = Less }) 60 (61 ∷ spell_value v) _ refl refl refl refl refl
    (ready_cons InTags (Some AfterLess) (Some AfterCompare) (record d { op = Less }) (record d { op = AtMost }) 61 (spell_value v) _ refl refl refl refl refl
    (value_ready (Some AfterCompare) (record d { op = AtMost }) v values_compare takes_compare (no_brace AtMost refl) h))
compare_ready AtLeast v d h =
    ready_cons InTags (Some (InName InTags)) (Some AfterGreater) d (record d { op = Greater }) 62 (61 ∷ spell_value v) _ refl refl refl refl refl
    (ready_cons InTags (Some AfterGreater) (Some AfterCompare) (record d { op = Greater }) (record d { op = AtLeast }) 61 (spell_value v) _ refl refl refl refl refl
    (value_ready (Some AfterCompare) (record d { op = AtLeast }) v values_compare takes_compare (no_brace AtLeast refl) h))
compare_ready Differs v d h =
    ready_cons InTags (Some (InName InTags)) (Some AfterLess) d (record d { op = Less }) 60 (62 ∷ spell_value v) _ refl refl refl refl refl
    (ready_cons InTags (Some AfterLess) (Some AfterEqual) (record d { op = Less }) (record d { op = Differs }) 62 (spell_value v) _ refl refl refl refl refl
    (value_ready (Some AfterEqual) (record d { op = Differs }) v values_equal takes_equal (λ e. (refl, refl)) h))

-- ---- terms

tag_ready : (p : Part) (o : Option State) → Opens p o → Begins o → (name : List ℕ) (d : Draft) → IsName name → Ready p o d (spell_name name) (Tag name)
tag_ready p o opens begins name d h = record {
  at = Some (InName p);
  draft = record d { name = name; shape = AsTag };
  ends = ends_name p;
  follows = follows_name p;
  parts = refl;
  link = refl;
  sign = refl;
  term = refl;
  goes = first_goes p o opens begins name d h;
}

term_ready : (p : Part) (o : Option State) → Opens p o → Begins o → (t : Term) (d : Draft) → IsTermIn p t → Ready p o d (spell_term t) t
term_ready InTags o opens begins (Tag name) d h = tag_ready InTags o opens begins name d h
term_ready InTags o opens begins (Found text) d h =
    ready_cons InTags o (Some InPattern) d (record d { shape = AsFound; text = [] }) 123 (text ++ 125 ∷ []) _ (opens.brace refl) (begins 123 d) refl refl refl
    (ready_closed (Some InPattern) (record d { shape = AsFound; text = [] }) (record d { shape = AsFound; text = text }) _ _
    (pattern_goes text (record d { shape = AsFound; text = [] }) text h refl) refl refl refl refl)
term_ready InTags o opens begins (Compare name op v) d h =
    ready_then InTags o (Some (InName InTags)) d (record d { name = name; shape = AsTag }) (spell_name name) (spell_op op ++ spell_value v) _
    (first_goes InTags o opens begins name d h.0) refl refl refl (compare_ready op v (record d { name = name; shape = AsTag }) h.1)
term_ready InTodo o opens begins (Tag name) d h = tag_ready InTodo o opens begins name d h
term_ready InTodo o opens begins (Found text) d h = absurd h
term_ready InTodo o opens begins (Compare name op v) d h = absurd h

begins_start : Begins (Some Start)
begins_start c d = refl

begins_linked : (p : Part) → Begins (Some (Linked p))
begins_linked p c d = refl

begins_signed : (p : Part) → Begins (Some (Signed p))
begins_signed p c d = refl

begins_slash : Begins (Some AfterSlash)
begins_slash c d = refl

begins_bang : Begins (Some AfterBang)
begins_bang c d = refl

-- ---- items

-- items are read whole: where that leads, and the parts that the draft then holds
record Grouped (p : Part) (o : Option State) (d : Draft) (cs : List ℕ) (q : Parts) : Type 0 where
  at : Option State
  draft : Draft
  ends : Ends p at
  follows : Follows at
  parts : parts_of draft ≡ q
  goes : Goes o d cs at draft

parts_ready : (q r : Parts) (k l : Link) (s t : Sign) (u v : Term) → q ≡ r → k ≡ l → s ≡ t → u ≡ v → extend q (item k s u ∷ []) ≡ extend r (item l t v ∷ [])
parts_ready q r k l s t u v e f g h = rw (e, f, g, h) refl

grouped_ready : (p : Part) (o : Option State) (d : Draft) (cs : List ℕ) (t : Term) → Ready p o d cs t → Grouped p o d cs (extend (open_parts d) (item d.link d.sign t ∷ []))
grouped_ready p o d cs t r = record {
  at = r.at;
  draft = r.draft;
  ends = r.ends;
  follows = r.follows;
  parts = parts_ready (open_parts r.draft) (open_parts d) r.draft.link d.link r.draft.sign d.sign (term_of r.draft) t r.parts r.link r.sign r.term;
  goes = r.goes;
}

grouped_cons : (p : Part) (o m : Option State) (d f : Draft) (c : ℕ) (cs : List ℕ) (q : Parts) → step_at o c ≡ m → absorb_at o c d ≡ f → Grouped p m f cs q → Grouped p o d (c ∷ cs) q
grouped_cons p o m d f c cs q h k g = record {
  at = g.at;
  draft = g.draft;
  ends = g.ends;
  follows = g.follows;
  parts = g.parts;
  goes = goes_cons o m d f c cs g.at g.draft h k g.goes;
}

-- a sign or none, and a term
sign_grouped : (p : Part) (o : Option State) → Signs p o → Opens p o → Begins o → (s : Sign) (t : Term) (d : Draft) → d.sign ≡ Unsigned → IsTermIn p t →
    Grouped p o d (spell_sign s ++ spell_term t) (extend (open_parts d) (item d.link s t ∷ []))
sign_grouped p o signs opens begins Unsigned t d h k =
    let g = grouped_ready p o d (spell_term t) t (term_ready p o opens begins t d k) in
    record {
      at = g.at;
      draft = g.draft;
      ends = g.ends;
      follows = g.follows;
      parts = g.parts ∙ ap (λ s. extend (open_parts d) (item d.link s t ∷ [])) h;
      goes = g.goes;
    }
sign_grouped p o signs opens begins Plus t d h k =
    grouped_cons p o (Some (Signed p)) d (record d { sign = Plus }) 43 (spell_term t) _ signs.plus (begins 43 d)
    (grouped_ready p (Some (Signed p)) (record d { sign = Plus }) (spell_term t) t (term_ready p (Some (Signed p)) (opens_signed p) (begins_signed p) t (record d { sign = Plus }) k))
sign_grouped p o signs opens begins Minus t d h k =
    grouped_cons p o (Some (Signed p)) d (record d { sign = Minus }) 45 (spell_term t) _ signs.minus (begins 45 d)
    (grouped_ready p (Some (Signed p)) (record d { sign = Minus }) (spell_term t) t (term_ready p (Some (Signed p)) (opens_signed p) (begins_signed p) t (record d { sign = Minus }) k))

item_grouped : (p : Part) (o : Option State) (l : Link) (s : Sign) (t : Term) (d : Draft) → Ends p o → Follows o → IsLink l s → IsTermIn p t →
    Grouped p o d (spell_item (item l s t)) (extend (parts_of d) (item l s t ∷ []))
item_grouped p o Direct Unsigned t d ends follows l h = absurd (l refl)
item_grouped p o Direct Plus t d ends follows l h =
    grouped_cons p o (Some (Signed p)) d (with_parts d (parts_of d) Direct Plus) 43 (spell_term t) _ ends.signs.plus (follows.plus d)
    (grouped_ready p (Some (Signed p)) (with_parts d (parts_of d) Direct Plus) (spell_term t) t
    (term_ready p (Some (Signed p)) (opens_signed p) (begins_signed p) t (with_parts d (parts_of d) Direct Plus) h))
item_grouped p o Direct Minus t d ends follows l h =
    grouped_cons p o (Some (Signed p)) d (with_parts d (parts_of d) Direct Minus) 45 (spell_term t) _ ends.signs.minus (follows.minus d)
    (grouped_ready p (Some (Signed p)) (with_parts d (parts_of d) Direct Minus) (spell_term t) t
    (term_ready p (Some (Signed p)) (opens_signed p) (begins_signed p) t (with_parts d (parts_of d) Direct Minus) h))
item_grouped p o And s t d ends follows l h =
    grouped_cons p o (Some (Linked p)) d (with_parts d (parts_of d) And Unsigned) 38 (spell_sign s ++ spell_term t) _ ends.and (follows.and d)
    (sign_grouped p (Some (Linked p)) (signs_linked p) (opens_linked p) (begins_linked p) s t (with_parts d (parts_of d) And Unsigned) refl h)
item_grouped p o Or s t d ends follows l h =
    grouped_cons p o (Some (Linked p)) d (with_parts d (parts_of d) Or Unsigned) 124 (spell_sign s ++ spell_term t) _ ends.or (follows.or d)
    (sign_grouped p (Some (Linked p)) (signs_linked p) (opens_linked p) (begins_linked p) s t (with_parts d (parts_of d) Or Unsigned) refl h)

extend_nil : (q : Parts) → extend q [] ≡ q
extend_nil (JustTags, tags, todo) = ap (λ x. (JustTags, x, todo)) (append-nil tags)
extend_nil (WithTodo, tags, todo) = ap (λ x. (WithTodo, tags, x)) (append-nil todo)
extend_nil (WithOpen, tags, todo) = ap (λ x. (WithOpen, tags, x)) (append-nil todo)

extend_more : (q : Parts) (xs ys : List Item) → extend (extend q xs) ys ≡ extend q (xs ++ ys)
extend_more (JustTags, tags, todo) xs ys = ap (λ x. (JustTags, x, todo)) (append_assoc tags xs ys)
extend_more (WithTodo, tags, todo) xs ys = ap (λ x. (WithTodo, tags, x)) (append_assoc todo xs ys)
extend_more (WithOpen, tags, todo) xs ys = ap (λ x. (WithOpen, tags, x)) (append_assoc todo xs ys)

later_grouped : (p : Part) (o : Option State) (is : List Item) (d : Draft) → Ends p o → Follows o → AreLater p is → Grouped p o d (spell_items is) (extend (parts_of d) is)
later_grouped p o [] d ends follows h = record {
  at = o;
  draft = d;
  ends = ends;
  follows = follows;
  parts = sym (extend_nil (parts_of d));
  goes = goes_nil o d d refl;
}
later_grouped p o (item l s t ∷ is) d ends follows h =
    let g = item_grouped p o l s t d ends follows h.0 h.1 in
    let m = later_grouped p g.at is g.draft g.ends g.follows h.2 in
    record {
      at = m.at;
      draft = m.draft;
      ends = m.ends;
      follows = m.follows;
      parts = m.parts ∙ ap (λ q. extend q is) g.parts ∙ extend_more (parts_of d) (item l s t ∷ []) is;
      goes = goes_then o g.at d g.draft (spell_item (item l s t)) (spell_items is) m.at m.draft g.goes m.goes;
    }

items_grouped : (p : Part) (o : Option State) → Signs p o → Opens p o → Begins o → (is : List Item) (d : Draft) → d.link ≡ Direct → d.sign ≡ Unsigned → AreItems p is →
    Grouped p o d (spell_items is) (extend (open_parts d) is)
items_grouped p o signs opens begins [] d l s h = absurd h
items_grouped p o signs opens begins (item And s t ∷ is) d l u h = absurd h
items_grouped p o signs opens begins (item Or s t ∷ is) d l u h = absurd h
items_grouped p o signs opens begins (item Direct s t ∷ is) d l u h =
    let g = sign_grouped p o signs opens begins s t d u h.0 in
    let m = later_grouped p g.at is g.draft g.ends g.follows h.1 in
    record {
      at = m.at;
      draft = m.draft;
      ends = m.ends;
      follows = m.follows;
      parts = m.parts ∙ ap (λ q. extend q is) (g.parts ∙ ap (λ k. extend (open_parts d) (item k s t ∷ [])) l) ∙ extend_more (open_parts d) (item Direct s t ∷ []) is;
      goes = goes_then o g.at d g.draft (spell_sign s ++ spell_term t) (spell_items is) m.at m.draft g.goes m.goes;
    }

-- ---- whole expressions

finished_ends : (p : Part) (o : Option State) (d : Draft) → Ends p o → finished o d ≡ Some (expr_of (parts_of d))
finished_ends p None d ends = let bad : false ≡ true = ends.final in absurd cc
finished_ends p (Some AfterBang) d ends = let bad : None ≡ Some (Linked p) = rw no_word-and at ends.and in absurd cc
finished_ends p (Some (InName q)) d ends = refl
finished_ends p (Some Closed) d ends = refl
finished_ends p (Some (InWhole n)) d ends = refl
finished_ends p (Some (InFraction n)) d ends = refl
finished_ends p (Some Start) d ends = let bad : false ≡ true = ends.final in absurd cc
finished_ends p (Some (Linked q)) d ends = let bad : false ≡ true = ends.final in absurd cc
finished_ends p (Some (Signed q)) d ends = let bad : false ≡ true = ends.final in absurd cc
finished_ends p (Some (Escaped q)) d ends = let bad : false ≡ true = ends.final in absurd cc
finished_ends p (Some InPattern) d ends = let bad : false ≡ true = ends.final in absurd cc
finished_ends p (Some AfterLess) d ends = let bad : false ≡ true = ends.final in absurd cc
finished_ends p (Some AfterGreater) d ends = let bad : false ≡ true = ends.final in absurd cc
finished_ends p (Some AfterCompare) d ends = let bad : false ≡ true = ends.final in absurd cc
finished_ends p (Some AfterEqual) d ends = let bad : false ≡ true = ends.final in absurd cc
finished_ends p (Some AfterMinus) d ends = let bad : false ≡ true = ends.final in absurd cc
finished_ends p (Some AfterPoint) d ends = let bad : false ≡ true = ends.final in absurd cc
finished_ends p (Some InText) d ends = let bad : false ≡ true = ends.final in absurd cc
finished_ends p (Some AfterSlash) d ends = let bad : false ≡ true = ends.final in absurd cc

-- what the whole text gives, where it goes so
whole_goes_to : (cs : List ℕ) (e : Option State) (f : Draft) → Goes (Some Start) empty_draft cs e f → read_all cs ≡ finished e f
whole_goes_to cs e f g =
    ap₂ finished (ap (run (Some Start)) (sym (append-nil cs)) ∙ (g []).0) (ap (advance (Some Start) empty_draft) (sym (append-nil cs)) ∙ (g []).1)

whole_grouped : (p : Part) (cs : List ℕ) (q : Parts) → Grouped p (Some Start) empty_draft cs q → read_all cs ≡ Some (expr_of q)
whole_grouped p cs q g = whole_goes_to cs g.at g.draft g.goes ∙ finished_ends p g.at g.draft g.ends ∙ ap (λ x. Some (expr_of x)) g.parts

-- up to the slash
record Slashed (tags : List Item) : Type 0 where
  draft : Draft
  parts : open_parts draft ≡ (WithTodo, tags, [])
  link : draft.link ≡ Direct
  sign : draft.sign ≡ Unsigned
  goes : Goes (Some Start) empty_draft (spell_items tags ++ 47 ∷ []) (Some AfterSlash) draft

slashed : (tags : List Item) → AreItemsOrNone InTags tags → Slashed tags
slashed [] h = record {
  draft = record empty_draft { kind = WithTodo };
  parts = refl;
  link = refl;
  sign = refl;
  goes = goes_cons (Some Start) (Some AfterSlash) empty_draft (record empty_draft { kind = WithTodo }) 47 [] _ _ refl refl (goes_nil (Some AfterSlash) _ _ refl);
}
slashed (i ∷ is) h =
    let g = items_grouped InTags (Some Start) signs_start opens_start begins_start (i ∷ is) empty_draft refl refl h in
    let next = with_parts g.draft (with_todo (parts_of g.draft)) Direct Unsigned in
    record {
      draft = next;
      parts = ap with_todo g.parts;
      link = refl;
      sign = refl;
      goes =
          goes_then (Some Start) g.at empty_draft g.draft (spell_items (i ∷ is)) (47 ∷ []) (Some AfterSlash) next g.goes
          (goes_cons g.at (Some AfterSlash) g.draft next 47 [] (Some AfterSlash) next (g.ends.slash refl) (g.follows.slash g.draft) (goes_nil (Some AfterSlash) next next refl));
    }

slash_grouped : (tags todo : List Item) (h : AreItemsOrNone InTags tags) → AreItems InTodo todo → read_all (spell_items tags ++ 47 ∷ spell_items todo) ≡ Some (Todo tags todo)
slash_grouped tags todo h k =
    let s = slashed tags h in
    let g = items_grouped InTodo (Some AfterSlash) signs_slash opens_slash begins_slash todo s.draft s.link s.sign k in
    let all : read_all ((spell_items tags ++ 47 ∷ []) ++ spell_items todo) ≡ finished g.at g.draft =
    whole_goes_to ((spell_items tags ++ 47 ∷ []) ++ spell_items todo) g.at g.draft (goes_then (Some Start) (Some AfterSlash) empty_draft s.draft (spell_items tags ++ 47 ∷ []) (spell_items todo) g.at g.draft s.goes g.goes) in
    ap read_all (sym (append_assoc (spell_items tags) (47 ∷ []) (spell_items todo))) ∙ all ∙ finished_ends InTodo g.at g.draft g.ends
    ∙ ap (λ x. Some (expr_of x)) (g.parts ∙ ap (λ q. extend q todo) s.parts)

-- the same after `/!`
banged : (tags : List Item) (s : Slashed tags) → Goes (Some Start) empty_draft ((spell_items tags ++ 47 ∷ []) ++ 33 ∷ []) (Some AfterBang) (record s.draft { kind = WithOpen })
banged tags s =
    goes_then (Some Start) (Some AfterSlash) empty_draft s.draft (spell_items tags ++ 47 ∷ []) (33 ∷ []) (Some AfterBang) (record s.draft { kind = WithOpen }) s.goes
    (goes_cons (Some AfterSlash) (Some AfterBang) s.draft (record s.draft { kind = WithOpen }) 33 [] (Some AfterBang) (record s.draft { kind = WithOpen }) refl refl
    (goes_nil (Some AfterBang) (record s.draft { kind = WithOpen }) (record s.draft { kind = WithOpen }) refl))

open_parts_is : (d : Draft) (tags : List Item) → open_parts d ≡ (WithTodo, tags, []) → open_parts (record d { kind = WithOpen }) ≡ (WithOpen, tags, [])
open_parts_is d tags e = ap (λ (q : Parts). let made : Parts = (WithOpen, q.1, q.2) in made) e

bang_grouped : (tags todo : List Item) → AreItemsOrNone InTags tags → AreItemsOrNone InTodo todo →
    read_all (((spell_items tags ++ 47 ∷ []) ++ 33 ∷ []) ++ spell_items todo) ≡ Some (Open tags todo)
bang_grouped tags [] h k =
    let s = slashed tags h in
    ap read_all (append-nil ((spell_items tags ++ 47 ∷ []) ++ 33 ∷ []))
    ∙ whole_goes_to ((spell_items tags ++ 47 ∷ []) ++ 33 ∷ []) (Some AfterBang) (record s.draft { kind = WithOpen }) (banged tags s)
    ∙ ap (λ x. Some (expr_of x)) (open_parts_is s.draft tags s.parts)
bang_grouped tags (i ∷ is) h k =
    let s = slashed tags h in
    let d = record s.draft { kind = WithOpen } in
    let g = items_grouped InTodo (Some AfterBang) signs_bang opens_bang begins_bang (i ∷ is) d s.link s.sign k in
    whole_goes_to (((spell_items tags ++ 47 ∷ []) ++ 33 ∷ []) ++ spell_items (i ∷ is)) g.at g.draft
    (goes_then (Some Start) (Some AfterBang) empty_draft d ((spell_items tags ++ 47 ∷ []) ++ 33 ∷ []) (spell_items (i ∷ is)) g.at g.draft (banged tags s) g.goes)
    ∙ finished_ends InTodo g.at g.draft g.ends ∙ ap (λ x. Some (expr_of x)) (g.parts ∙ ap (λ q. extend q (i ∷ is)) (open_parts_is s.draft tags s.parts))

-- what is read of a spelled expression is the expression
pub read_all-spell : (e : Expr) → IsExpr e → read_all (spell e) ≡ Some e
read_all-spell (Tags tags) h =
    whole_grouped InTags (spell_items tags) (JustTags, tags, []) (items_grouped InTags (Some Start) signs_start opens_start begins_start tags empty_draft refl refl h)
read_all-spell (Todo tags todo) h = slash_grouped tags todo h.0 h.1
read_all-spell (Open tags todo) h =
    let same : spell_items tags ++ 47 ∷ 33 ∷ spell_items todo ≡ ((spell_items tags ++ 47 ∷ []) ++ 33 ∷ []) ++ spell_items todo = simp append_assoc in
    ap read_all same ∙ bang_grouped tags todo h.0 h.1

-- so a text has one tree
pub one_tree : (cs : List ℕ) (a b : Expr) → Reads cs a → Reads cs b → a ≡ b
one_tree cs a b r s =
    let same : Some a ≡ Some b = sym (read_all-spell a r.is_expr) ∙ ap read_all (r.spelled ∙ sym s.spelled) ∙ read_all-spell b s.is_expr in cc

-- and what is read of a whole text is its tree
pub read_all-Reads : (cs : List ℕ) → is_final_at (run (Some Start) cs) ≡ true → (e : Expr) × (read_all cs ≡ Some e) × Reads cs e
read_all-Reads cs h =
    let r = expr_is cs h in
    (r.0, ap read_all (sym r.1.spelled) ∙ read_all-spell r.0 r.1.is_expr, r.1)
