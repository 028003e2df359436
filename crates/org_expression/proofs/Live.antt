-- What may follow each state, so that the whole is an expression. Each state is live.
use Rattle.std.specs.Char.{is_ascii_digit}
use Rattle.std.proofs.Common.{◌≡◌, ◌⊎◌, inl, inr, ℕ, ◌+◌, ◌≤◌, Bool, true, false, cond, ◌||◌, ◌&&◌, List, [], ◌∷◌, ◌++◌, length, Option, None, Some, refl, ap, ap₂, ◌∙◌, sym, arith, append_assoc, append-nil}
use Rattle.std.specs.Prelude.{◌==◌, nat_lt}
use Rattle.std.specs.List.{list_all}
use Rattle.std.specs.Option.{option_or}
use Rattle.std.proofs.lemmas.Bool.Decides.{nat_tests}
use Rattle.org_base.specs.Characters.{is_tag_char}
use Rattle.org_expression.specs.Grammar.{Link, Direct, And, Or, Sign, Unsigned, Plus, Minus, Op, Less, Equal, Greater, AtMost, AtLeast, Differs, Value, Number, Quoted, Pattern, Term, Tag, Found, Compare, Item, item, Expr, Tags, Todo, Open, spell_sign, spell_op, spell_name, spell_fraction, spell_value, spell_term, spell_item, spell_items, spell, IsName, Lacks, takes_pattern, IsValue, IsTermIn, IsLink, AreLater, AreItems, AreItemsOrNone, IsExpr, Reads, Begins, IsLongestFront}
use Rattle.org_expression.proofs.GrammarWords.{is_name_char}
use Rattle.org_expression.specs.declared.state.Part.{Part}
use Rattle.org_expression.specs.declared.state.Part.TheVariants.{InTags, InTodo}
use Rattle.org_expression.specs.declared.state.State.{State}
use Rattle.org_expression.specs.declared.state.State.TheVariants.{Start, Linked, Signed, InName, Escaped, InPattern, Closed, AfterLess, AfterGreater, AfterCompare, AfterEqual, AfterMinus, InWhole, AfterPoint, InFraction, InText, AfterSlash, AfterBang}
use Rattle.org_expression.specs.Automaton.{sign_step, term_step, next_step, value_step, name_step, step, step_at, run, reach, is_final, is_final_at}
use Rattle.std.specs.Prelude.{is_some, encode_utf8_all, encode_utf8}
use Rattle.std.proofs.lemmas.Str.{length-encode}
use Rattle.std.proofs.Common.{length-append}
use Rattle.org_expression.proofs.Run.{run_none, run-append}
use Rattle.org_expression.proofs.Accepts.{accepts}
use Rattle.org_expression.proofs.Marks.{no_mark, no_word-minus}

-- what an expression ends with after its tags
data End : Type 0 where
  NoEnd : End
  TodoEnd : List Item → End
  OpenEnd : List Item → End

abbrev spell_end : End → List ℕ
spell_end NoEnd = []
spell_end (TodoEnd todo) = 47 ∷ spell_items todo
spell_end (OpenEnd todo) = 47 ∷ 33 ∷ spell_items todo

abbrev IsEnd : End → Type 0
IsEnd NoEnd = Unit {0}
IsEnd (TodoEnd todo) = AreItems InTodo todo
IsEnd (OpenEnd todo) = AreItemsOrNone InTodo todo

-- what may follow a whole term
abbrev More : Part → List ℕ → Type 0
More InTags x = (is : List Item) × AreLater InTags is × (end : End) × IsEnd end × (x ≡ spell_items is ++ spell_end end)
More InTodo x = (is : List Item) × AreLater InTodo is × (x ≡ spell_items is)

abbrev TermAt : Part → List ℕ → Type 0
TermAt p x = (t : Term) × IsTermIn p t × (y : List ℕ) × More p y × (x ≡ spell_term t ++ y)

abbrev OpenAt : Part → List ℕ → Type 0
OpenAt p x = (s : Sign) × (y : List ℕ) × TermAt p y × (x ≡ spell_sign s ++ y)

abbrev StartAt : List ℕ → Type 0
StartAt x = (e : Expr) × IsExpr e × (x ≡ spell e)

abbrev ValueAt : Op → List ℕ → Type 0
ValueAt op x = (v : Value) × IsValue op v × (y : List ℕ) × More InTags y × (x ≡ spell_value v ++ y)

abbrev AfterName : Part → List ℕ → Type 0
AfterName InTags x = More InTags x ⊎ ((op : Op) × (y : List ℕ) × ValueAt op y × (x ≡ spell_op op ++ y))
AfterName InTodo x = More InTodo x

abbrev NameRest : Part → List ℕ → Type 0
NameRest p x = (more : List ℕ) × (list_all is_name_char more ≡ true) × (y : List ℕ) × AfterName p y × (x ≡ spell_name more ++ y)

-- digits, n of which are read, and a point with digits
abbrev WholeRest : ℕ → List ℕ → Type 0
WholeRest n x = (ds : List ℕ) × (fs : List ℕ) × (n + length ds ≤ 18) × (list_all is_ascii_digit ds ≡ true) × (length fs ≤ 9) × (list_all is_ascii_digit fs ≡ true)
    × (y : List ℕ) × More InTags y × (x ≡ ds ++ (spell_fraction fs ++ y))

abbrev FractionRest : ℕ → List ℕ → Type 0
FractionRest n x = (fs : List ℕ) × (n + length fs ≤ 9) × (list_all is_ascii_digit fs ≡ true) × (y : List ℕ) × More InTags y × (x ≡ fs ++ y)

abbrev BangRest : List ℕ → Type 0
BangRest x = (x ≡ []) ⊎ OpenAt InTodo x

-- what may follow a state
abbrev Rests : State → List ℕ → Type 0
Rests Start x = StartAt x
Rests (Linked p) x = OpenAt p x
Rests (Signed p) x = TermAt p x
Rests (InName p) x = NameRest p x
Rests (Escaped p) x = (y : List ℕ) × NameRest p y × (x ≡ 45 ∷ y)
Rests InPattern x = (t : List ℕ) × Lacks 125 t × (y : List ℕ) × More InTags y × (x ≡ t ++ 125 ∷ y)
Rests Closed x = More InTags x
Rests AfterLess x = ValueAt Less x ⊎ (((y : List ℕ) × ValueAt AtMost y × (x ≡ 61 ∷ y)) ⊎ ((y : List ℕ) × ValueAt Differs y × (x ≡ 62 ∷ y)))
Rests AfterGreater x = ValueAt Greater x ⊎ ((y : List ℕ) × ValueAt AtLeast y × (x ≡ 61 ∷ y))
Rests AfterCompare x = ValueAt AtMost x
Rests AfterEqual x = ValueAt Equal x
Rests AfterMinus x = (d : ℕ) × (is_ascii_digit d ≡ true) × (y : List ℕ) × WholeRest 1 y × (x ≡ d ∷ y)
Rests (InWhole n) x = WholeRest n x
Rests AfterPoint x = (d : ℕ) × (is_ascii_digit d ≡ true) × (y : List ℕ) × FractionRest 1 y × (x ≡ d ∷ y)
Rests (InFraction n) x = FractionRest n x
Rests InText x = (t : List ℕ) × Lacks 34 t × (y : List ℕ) × More InTags y × (x ≡ t ++ 34 ∷ y)
Rests AfterSlash x = OpenAt InTodo x ⊎ ((y : List ℕ) × BangRest y × (x ≡ 33 ∷ y))
Rests AfterBang x = BangRest x

abbrev RestsAt : Option State → List ℕ → Type 0
RestsAt None x = ⊥
RestsAt (Some s) x = Rests s x

-- ---- tests

by_test : (b : Bool) (A B : Option State) (x : List ℕ) (G : Type 0) → (b ≡ true → RestsAt A x → G) → (b ≡ false → RestsAt B x → G) → RestsAt (cond b A B) x → G
by_test true A B x G f g r = f refl r
by_test false A B x G f g r = g refl r

same : (c m : ℕ) → (c == m) ≡ true → c ≡ m
same c m h = grind (arith, nat_tests)

either : (a b : Bool) → (a || b) ≡ true → (a ≡ true) ⊎ (b ≡ true)
either true b h = inl refl
either false b h = inr h

-- ---- what stands after a term

more_item : (p : Part) (l : Link) (s : Sign) (t : Term) (y : List ℕ) → IsLink l s → IsTermIn p t → More p y → More p (spell_item (item l s t) ++ y)
more_item InTags l s t y h k m = (
  item l s t ∷ m.0,
  (h, k, m.1),
  m.2,
  m.3,
  rw m.4 (sym (append_assoc (spell_item (item l s t)) (spell_items m.0) (spell_end m.2))),
)
more_item InTodo l s t y h k m = (item l s t ∷ m.0, (h, k, m.1), rw m.2 refl)

-- the items that begin a part
todo_items : (x : List ℕ) → OpenAt InTodo x → (todo : List Item) × AreItems InTodo todo × (x ≡ spell_items todo)
todo_items x (s, y, (t, k, z, m, e), d) = (item Direct s t ∷ m.0, (k, m.1), rw (d, e, m.2) (sym (append_assoc (spell_sign s) (spell_term t) (spell_items m.0))))

start_open : (x : List ℕ) → OpenAt InTags x → StartAt x
start_open x (s, y, (t, k, z, (is, later, NoEnd, h, f), e), d) =
    (Tags (item Direct s t ∷ is), (k, later), rw (d, e, f, append-nil) (sym (append_assoc (spell_sign s) (spell_term t) (spell_items is))))
start_open x (s, y, (t, k, z, (is, later, TodoEnd todo, h, f), e), d) =
    (Todo (item Direct s t ∷ is) todo, ((k, later), h), rw (d, e, f) (simp append_assoc))
start_open x (s, y, (t, k, z, (is, later, OpenEnd todo, h, f), e), d) =
    (Open (item Direct s t ∷ is) todo, ((k, later), h), rw (d, e, f) (simp append_assoc))

slash_end : (x : List ℕ) → Rests AfterSlash x → (end : End) × IsEnd end × (47 ∷ x ≡ spell_end end)
slash_end x (inl o) = let todo = todo_items x o in (TodoEnd todo.0, todo.1, ap (λ cs. 47 ∷ cs) todo.2)
slash_end x (inr (y, inl e, d)) = (OpenEnd [], tt, rw (d, e) refl)
slash_end x (inr (y, inr o, d)) = let todo = todo_items y o in (OpenEnd todo.0, orNone todo.0 todo.1, ap (λ cs. 47 ∷ cs) (d ∙ ap (λ cs. 33 ∷ cs) todo.2))
  where
    orNone : (is : List Item) → AreItems InTodo is → AreItemsOrNone InTodo is
    orNone [] h = tt
    orNone (i ∷ is) h = h

-- a list with a character before it
after : (c m : ℕ) (x y : List ℕ) → (c == m) ≡ true → x ≡ y → c ∷ x ≡ m ∷ y
after c m x y h e = ap₂ (λ d z. d ∷ z) (same c m h) e

signed_more : (p : Part) (c : ℕ) (x : List ℕ) → ((c == 43) ≡ true) ⊎ ((c == 45) ≡ true) → TermAt p x → More p (c ∷ x)
signed_more p c x (inl h) (t, k, y, m, e) = rw (after c 43 x (spell_term t ++ y) h e) (more_item p Direct Plus t y (λ f. cc) k m)
signed_more p c x (inr h) (t, k, y, m, e) = rw (after c 45 x (spell_term t ++ y) h e) (more_item p Direct Minus t y (λ f. cc) k m)

linked_more : (p : Part) (c : ℕ) (x : List ℕ) → ((c == 38) ≡ true) ⊎ ((c == 124) ≡ true) → OpenAt p x → More p (c ∷ x)
linked_more p c x (inl h) (s, z, (t, k, y, m, e), d) =
    rw (after c 38 x (spell_sign s ++ (spell_term t ++ y)) h (d ∙ ap (λ q. spell_sign s ++ q) e), ← append_assoc (spell_sign s) (spell_term t) y)
    (more_item p And s t y tt k m)
linked_more p c x (inr h) (s, z, (t, k, y, m, e), d) =
    rw (after c 124 x (spell_sign s ++ (spell_term t ++ y)) h (d ∙ ap (λ q. spell_sign s ++ q) e), ← append_assoc (spell_sign s) (spell_term t) y)
    (more_item p Or s t y tt k m)

slash_more : (c : ℕ) (x : List ℕ) → (c == 47) ≡ true → Rests AfterSlash x → More InTags (c ∷ x)
slash_more c x h r = let end = slash_end x r in ([], tt, end.0, end.1, after c 47 x x h refl ∙ end.2)

next_pull : (p : Part) (c : ℕ) (x : List ℕ) → RestsAt (next_step p c) x → More p (c ∷ x)
next_pull InTags c x =
    by_test (c == 43 || c == 45) _ _ x _ (λ h. signed_more InTags c x (either _ _ h))
    (λ _. by_test (c == 38 || c == 124) _ _ x _ (λ h. linked_more InTags c x (either _ _ h))
    (λ _. by_test (c == 47) _ _ x _ (slash_more c x) (λ _ r. absurd r)))
next_pull InTodo c x =
    by_test (c == 43 || c == 45) _ _ x _ (λ h. signed_more InTodo c x (either _ _ h))
    (λ _. by_test (c == 38 || c == 124) _ _ x _ (λ h. linked_more InTodo c x (either _ _ h)) (λ _ r. absurd r))

-- ---- names and terms

name_term : (p : Part) (name y : List ℕ) → IsName name → AfterName p y → TermAt p (spell_name name ++ y)
name_term InTags name y h (inl m) = (Tag name, h, y, m, refl)
name_term InTags name y h (inr (op, z, (v, k, w, m, e), d)) = (Compare name op v, (h, k), w, m, rw (d, e) (simp append_assoc))
name_term InTodo name y h m = (Tag name, h, y, m, refl)

-- a character of words, or a minus after a backslash, before the rest of a name
word_name : (p : Part) (c : ℕ) (x : List ℕ) → is_tag_char c ≡ true → NameRest p x →
    (name : List ℕ) × IsName name × (y : List ℕ) × AfterName p y × (c ∷ x ≡ spell_name name ++ y)
word_name p c x h (more, k, y, a, e) =
    let m = no_mark c h in
    let no : (c == 45) ≡ false = grind (arith, nat_tests, m.minus) in
    (c ∷ more, ((λ f. cc), rw (h, k) refl), y, a, rw (no, e) refl)

escaped_name : (p : Part) (x : List ℕ) → NameRest p x →
    (name : List ℕ) × IsName name × (y : List ℕ) × AfterName p y × (92 ∷ 45 ∷ x ≡ spell_name name ++ y)
escaped_name p x (more, k, y, a, e) = (45 ∷ more, ((λ f. cc), rw (no_word-minus, k) refl), y, a, rw e refl)

word_term : (p : Part) (c : ℕ) (x : List ℕ) → is_tag_char c ≡ true → NameRest p x → TermAt p (c ∷ x)
word_term p c x h r = let n = word_name p c x h r in rw n.4 (name_term p n.0 n.2 n.1 n.3)

escaped_term : (p : Part) (c : ℕ) (x : List ℕ) → (c == 92) ≡ true → Rests (Escaped p) x → TermAt p (c ∷ x)
escaped_term p c x h (y, r, e) = let n = escaped_name p y r in rw (after c 92 x (45 ∷ y) h e, n.4) (name_term p n.0 n.2 n.1 n.3)

found_term : (c : ℕ) (x : List ℕ) → (c == 123) ≡ true → Rests InPattern x → TermAt InTags (c ∷ x)
found_term c x h (t, k, y, m, e) = (Found t, k, y, m, after c 123 x (t ++ 125 ∷ y) h e ∙ ap (λ q. 123 ∷ q) (sym (append_assoc t (125 ∷ []) y)))

term_pull : (p : Part) (c : ℕ) (x : List ℕ) → RestsAt (term_step p c) x → TermAt p (c ∷ x)
term_pull InTags c x =
    by_test (c == 92) _ _ x _ (escaped_term InTags c x)
    (λ _. by_test (c == 123) _ _ x _ (found_term c x)
    (λ _. by_test (is_tag_char c) _ _ x _ (word_term InTags c x) (λ _ r. absurd r)))
term_pull InTodo c x =
    by_test (c == 92) _ _ x _ (escaped_term InTodo c x)
    (λ _. by_test (is_tag_char c) _ _ x _ (word_term InTodo c x) (λ _ r. absurd r))

-- a sign or none, before a term
sign_open : (p : Part) (c : ℕ) (x : List ℕ) → ((c == 43) ≡ true) ⊎ ((c == 45) ≡ true) → TermAt p x → OpenAt p (c ∷ x)
sign_open p c x (inl h) t = (Plus, x, t, after c 43 x x h refl)
sign_open p c x (inr h) t = (Minus, x, t, after c 45 x x h refl)

open_by : (p : Part) (c : ℕ) (x : List ℕ) (b : Bool) (later : Option State) → (b ≡ true → ((c == 43) ≡ true) ⊎ ((c == 45) ≡ true)) →
    (RestsAt later x → TermAt p (c ∷ x)) → RestsAt (option_or (cond b (Some (Signed p)) None) later) x → OpenAt p (c ∷ x)
open_by p c x true later sign term r = sign_open p c x (sign refl) r
open_by p c x false later sign term r = (Unsigned, c ∷ x, term r, refl)

open_pull : (p : Part) (c : ℕ) (x : List ℕ) → RestsAt (option_or (sign_step p c) (term_step p c)) x → OpenAt p (c ∷ x)
open_pull p c x = open_by p c x (c == 43 || c == 45) (term_step p c) (either _ _) (term_pull p c x)

-- ---- values

both : (a b : Bool) → a ≡ true → b ≡ true → (a && b) ≡ true
both a b h k = rw (h, k) refl

minus_value : (op : Op) (c : ℕ) (x : List ℕ) → (c == 45) ≡ true → Rests AfterMinus x → ValueAt op (c ∷ x)
minus_value op c x h (d, k, y, (ds, fs, l, hd, lf, hf, z, m, e), f) = (
  Number true (d ∷ ds) fs,
  (omega arith, omega arith, both _ _ k hd, lf, hf),
  z,
  m,
  after c 45 x (d ∷ (ds ++ (spell_fraction fs ++ z))) h (f ∙ ap (λ q. d ∷ q) e) ∙ simp append_assoc,
)

digit_value : (op : Op) (c : ℕ) (x : List ℕ) → is_ascii_digit c ≡ true → WholeRest 1 x → ValueAt op (c ∷ x)
digit_value op c x h (ds, fs, l, hd, lf, hf, z, m, e) =
    (Number false (c ∷ ds) fs, (omega arith, omega arith, both _ _ h hd, lf, hf), z, m, ap (λ q. c ∷ q) e ∙ simp append_assoc)

quoted_value : (op : Op) (c : ℕ) (x : List ℕ) → (c == 34) ≡ true → Rests InText x → ValueAt op (c ∷ x)
quoted_value op c x h (t, k, y, m, e) = (Quoted t, k, y, m, after c 34 x (t ++ 34 ∷ y) h e ∙ ap (λ q. 34 ∷ q) (sym (append_assoc t (34 ∷ []) y)))

pattern_value : (op : Op) (c : ℕ) (x : List ℕ) → takes_pattern op ≡ true → (c == 123) ≡ true → Rests InPattern x → ValueAt op (c ∷ x)
pattern_value op c x may h (t, k, y, m, e) =
    (Pattern t, (may, k), y, m, after c 123 x (t ++ 125 ∷ y) h e ∙ ap (λ q. 123 ∷ q) (sym (append_assoc t (125 ∷ []) y)))

value_pull : (op : Op) (c : ℕ) (x : List ℕ) → RestsAt (value_step c) x → ValueAt op (c ∷ x)
value_pull op c x =
    by_test (c == 45) _ _ x _ (minus_value op c x)
    (λ _. by_test (c == 34) _ _ x _ (quoted_value op c x)
    (λ _. by_test (is_ascii_digit c) _ _ x _ (digit_value op c x) (λ _ r. absurd r)))

-- a value of one operator is one of another that takes patterns alike
value_as : (a b : Op) → takes_pattern a ≡ takes_pattern b → (x : List ℕ) → ValueAt a x → ValueAt b x
value_as a b same x (Number n whole fs, k, y, m, e) = (Number n whole fs, k, y, m, e)
value_as a b same x (Quoted t, k, y, m, e) = (Quoted t, k, y, m, e)
value_as a b same x (Pattern t, k, y, m, e) = (Pattern t, (sym same ∙ k.0, k.1), y, m, e)

less_pull : (c : ℕ) (x : List ℕ) → RestsAt (step AfterLess c) x → Rests AfterLess (c ∷ x)
less_pull c x =
    by_test (c == 61) _ _ x _ (λ h r. inr (inl (x, r, after c 61 x x h refl)))
    (λ _. by_test (c == 62) _ _ x _ (λ h r. inr (inr (x, value_as Equal Differs refl x r, after c 62 x x h refl)))
    (λ _ r. inl (value_pull Less c x r)))

greater_pull : (c : ℕ) (x : List ℕ) → RestsAt (step AfterGreater c) x → Rests AfterGreater (c ∷ x)
greater_pull c x =
    by_test (c == 61) _ _ x _ (λ h r. inr (x, value_as AtMost AtLeast refl x r, after c 61 x x h refl)) (λ _ r. inl (value_pull Greater c x r))

equal_pull : (c : ℕ) (x : List ℕ) → RestsAt (step AfterEqual c) x → Rests AfterEqual (c ∷ x)
equal_pull c x = by_test (c == 123) _ _ x _ (pattern_value Equal c x refl) (λ _. value_pull Equal c x)

-- ---- after a name

less_name : (c : ℕ) (x : List ℕ) → (c == 60) ≡ true → Rests AfterLess x → NameRest InTags (c ∷ x)
less_name c x h (inl v) = ([], refl, c ∷ x, inr (Less, x, v, after c 60 x x h refl), refl)
less_name c x h (inr (inl (y, v, e))) = ([], refl, c ∷ x, inr (AtMost, y, v, after c 60 x (61 ∷ y) h e), refl)
less_name c x h (inr (inr (y, v, e))) = ([], refl, c ∷ x, inr (Differs, y, v, after c 60 x (62 ∷ y) h e), refl)

greater_name : (c : ℕ) (x : List ℕ) → (c == 62) ≡ true → Rests AfterGreater x → NameRest InTags (c ∷ x)
greater_name c x h (inl v) = ([], refl, c ∷ x, inr (Greater, x, v, after c 62 x x h refl), refl)
greater_name c x h (inr (y, v, e)) = ([], refl, c ∷ x, inr (AtLeast, y, v, after c 62 x (61 ∷ y) h e), refl)

equal_name : (c : ℕ) (x : List ℕ) → (c == 61) ≡ true → Rests AfterEqual x → NameRest InTags (c ∷ x)
equal_name c x h v = ([], refl, c ∷ x, inr (Equal, x, v, after c 61 x x h refl), refl)

escaped_rest : (p : Part) (c : ℕ) (x : List ℕ) → (c == 92) ≡ true → Rests (Escaped p) x → NameRest p (c ∷ x)
escaped_rest p c x h (y, r, e) = let n = escaped_name p y r in (n.0, n.1.1, n.2, n.3, after c 92 x (45 ∷ y) h e ∙ n.4)

word_rest : (p : Part) (c : ℕ) (x : List ℕ) → is_tag_char c ≡ true → NameRest p x → NameRest p (c ∷ x)
word_rest p c x h r = let n = word_name p c x h r in (n.0, n.1.1, n.2, n.3, n.4)

name_pull : (p : Part) (c : ℕ) (x : List ℕ) → RestsAt (name_step p c) x → NameRest p (c ∷ x)
name_pull InTags c x =
    by_test (c == 92) _ _ x _ (escaped_rest InTags c x)
    (λ _. by_test (c == 60) _ _ x _ (less_name c x)
    (λ _. by_test (c == 61) _ _ x _ (equal_name c x)
    (λ _. by_test (c == 62) _ _ x _ (greater_name c x)
    (λ _. by_test (is_tag_char c) _ _ x _ (word_rest InTags c x)
    (λ _ r. ([], refl, c ∷ x, inl (next_pull InTags c x r), refl))))))
name_pull InTodo c x =
    by_test (c == 92) _ _ x _ (escaped_rest InTodo c x)
    (λ _. by_test (is_tag_char c) _ _ x _ (word_rest InTodo c x)
    (λ _ r. ([], refl, c ∷ x, next_pull InTodo c x r, refl)))

-- ---- each state

start_pull : (c : ℕ) (x : List ℕ) → RestsAt (step Start c) x → StartAt (c ∷ x)
start_pull c x =
    by_test (c == 47) _ _ x _ (λ h r. slash_start c x h (slash_end x r)) (λ _ r. start_open (c ∷ x) (open_pull InTags c x r))
  where
    slash_start : (c : ℕ) (x : List ℕ) → (c == 47) ≡ true → (end : End) × IsEnd end × (47 ∷ x ≡ spell_end end) → StartAt (c ∷ x)
    slash_start c x h (NoEnd, k, e) = absurd cc
    slash_start c x h (TodoEnd todo, k, e) = (Todo [] todo, (tt, k), after c 47 x x h refl ∙ e)
    slash_start c x h (OpenEnd todo, k, e) = (Open [] todo, (tt, k), after c 47 x x h refl ∙ e)

pattern_pull : (c : ℕ) (x : List ℕ) → RestsAt (step InPattern c) x → Rests InPattern (c ∷ x)
pattern_pull c x =
    by_test (c == 125) _ _ x _ (λ h m. ([], refl, x, m, after c 125 x x h refl))
    (λ h r. (c ∷ r.0, both _ _ (rw h refl) r.1, r.2, r.3, ap (λ q. c ∷ q) r.4))

text_pull : (c : ℕ) (x : List ℕ) → RestsAt (step InText c) x → Rests InText (c ∷ x)
text_pull c x =
    by_test (c == 34) _ _ x _ (λ h m. ([], refl, x, m, after c 34 x x h refl))
    (λ h r. (c ∷ r.0, both _ _ (rw h refl) r.1, r.2, r.3, ap (λ q. c ∷ q) r.4))

whole_pull : (n c : ℕ) (x : List ℕ) → n ≤ 18 → RestsAt (step (InWhole n) c) x → WholeRest n (c ∷ x)
whole_pull n c x le =
    by_test (is_ascii_digit c) _ _ x _ (λ h. by_test (nat_lt n 18) _ _ x _ (λ less r. more_digit h r) (λ _ r. absurd r))
    (λ _. by_test (c == 46) _ _ x _ point (λ _ r. ([], [], omega arith, refl, omega arith, refl, c ∷ x, next_pull InTags c x r, refl)))
  where
    more_digit : is_ascii_digit c ≡ true → WholeRest (n + 1) x → WholeRest n (c ∷ x)
    more_digit h (ds, fs, l, hd, lf, hf, z, m, e) = (c ∷ ds, fs, omega arith, both _ _ h hd, lf, hf, z, m, ap (λ q. c ∷ q) e)

    point : (c == 46) ≡ true → Rests AfterPoint x → WholeRest n (c ∷ x)
    point h (d, k, y, (fs, l, hf, z, m, e), f) =
        ([], d ∷ fs, omega arith, refl, omega arith, both _ _ k hf, z, m, after c 46 x (d ∷ (fs ++ z)) h (f ∙ ap (λ q. d ∷ q) e))

fraction_pull : (n c : ℕ) (x : List ℕ) → n ≤ 9 → RestsAt (step (InFraction n) c) x → FractionRest n (c ∷ x)
fraction_pull n c x le =
    by_test (is_ascii_digit c) _ _ x _ (λ h. by_test (nat_lt n 9) _ _ x _ (λ less r. more_digit h r) (λ _ r. absurd r))
    (λ _ r. ([], omega arith, refl, c ∷ x, next_pull InTags c x r, refl))
  where
    more_digit : is_ascii_digit c ≡ true → FractionRest (n + 1) x → FractionRest n (c ∷ x)
    more_digit h (fs, l, hf, z, m, e) = (c ∷ fs, omega arith, both _ _ h hf, z, m, ap (λ q. c ∷ q) e)

-- the limits on digits
abbrev pub IsLive : State → Type 0
IsLive (InWhole n) = n ≤ 18
IsLive (InFraction n) = n ≤ 9
IsLive _ = Unit {0}

slash_pull : (c : ℕ) (x : List ℕ) → RestsAt (step AfterSlash c) x → Rests AfterSlash (c ∷ x)
slash_pull c x = by_test (c == 33) _ _ x _ (λ h r. inr (x, r, after c 33 x x h refl)) (λ _ r. inl (open_pull InTodo c x r))

pull : (s : State) (c : ℕ) (x : List ℕ) → IsLive s → RestsAt (step s c) x → Rests s (c ∷ x)
pull Start c x l r = start_pull c x r
pull (Linked p) c x l r = open_pull p c x r
pull (Signed p) c x l r = term_pull p c x r
pull (InName p) c x l r = name_pull p c x r
pull (Escaped p) c x l r = by_test (c == 45) _ _ x _ (λ h n. (x, n, after c 45 x x h refl)) (λ _ f. absurd f) r
pull InPattern c x l r = pattern_pull c x r
pull Closed c x l r = next_pull InTags c x r
pull AfterLess c x l r = less_pull c x r
pull AfterGreater c x l r = greater_pull c x r
pull AfterCompare c x l r = value_pull AtMost c x r
pull AfterEqual c x l r = equal_pull c x r
pull AfterMinus c x l r = by_test (is_ascii_digit c) _ _ x _ (λ h w. (c, h, x, w, refl)) (λ _ f. absurd f) r
pull (InWhole n) c x l r = whole_pull n c x l r
pull AfterPoint c x l r = by_test (is_ascii_digit c) _ _ x _ (λ h w. (c, h, x, w, refl)) (λ _ f. absurd f) r
pull (InFraction n) c x l r = fraction_pull n c x l r
pull InText c x l r = text_pull c x r
pull AfterSlash c x l r = slash_pull c x r
pull AfterBang c x l r = inr (open_pull InTodo c x r)

-- ---- each state comes to an end

abbrev IsLiveAt : Option State → Type 0
IsLiveAt None = Unit {0}
IsLiveAt (Some s) = IsLive s

live_test : (b : Bool) (A B : Option State) → (b ≡ true → IsLiveAt A) → IsLiveAt B → IsLiveAt (cond b A B)
live_test true A B f g = f refl
live_test false A B f g = g

live_next : (p : Part) (c : ℕ) → IsLiveAt (next_step p c)
live_next InTags c = live_test (c == 43 || c == 45) _ _ (λ _. tt) (live_test (c == 38 || c == 124) _ _ (λ _. tt) (live_test (c == 47) _ _ (λ _. tt) tt))
live_next InTodo c = live_test (c == 43 || c == 45) _ _ (λ _. tt) (live_test (c == 38 || c == 124) _ _ (λ _. tt) tt)

live_term : (p : Part) (c : ℕ) → IsLiveAt (term_step p c)
live_term InTags c = live_test (c == 92) _ _ (λ _. tt) (live_test (c == 123) _ _ (λ _. tt) (live_test (is_tag_char c) _ _ (λ _. tt) tt))
live_term InTodo c = live_test (c == 92) _ _ (λ _. tt) (live_test (is_tag_char c) _ _ (λ _. tt) tt)

live_open : (p : Part) (c : ℕ) → IsLiveAt (option_or (sign_step p c) (term_step p c))
live_open p c = by (c == 43 || c == 45)
  where
    by : (b : Bool) → IsLiveAt (option_or (cond b (Some (Signed p)) None) (term_step p c))
    by true = tt
    by false = live_term p c

live_value : (c : ℕ) → IsLiveAt (value_step c)
live_value c = live_test (c == 45) _ _ (λ _. tt) (live_test (c == 34) _ _ (λ _. tt) (live_test (is_ascii_digit c) _ _ (λ _. omega arith) tt))

live_name : (p : Part) (c : ℕ) → IsLiveAt (name_step p c)
live_name InTags c =
    live_test (c == 92) _ _ (λ _. tt) (live_test (c == 60) _ _ (λ _. tt) (live_test (c == 61) _ _ (λ _. tt) (live_test (c == 62) _ _ (λ _. tt)
    (live_test (is_tag_char c) _ _ (λ _. tt) (live_next InTags c)))))
live_name InTodo c = live_test (c == 92) _ _ (λ _. tt) (live_test (is_tag_char c) _ _ (λ _. tt) (live_next InTodo c))

less_from : (n m : ℕ) → nat_lt n m ≡ true → n + 1 ≤ m
less_from n m h = grind (arith, nat_tests)

live_step : (s : State) (c : ℕ) → IsLiveAt (step s c)
live_step Start c = live_test (c == 47) _ _ (λ _. tt) (live_open InTags c)
live_step (Linked p) c = live_open p c
live_step (Signed p) c = live_term p c
live_step (InName p) c = live_name p c
live_step (Escaped p) c = live_test (c == 45) _ _ (λ _. tt) tt
live_step InPattern c = live_test (c == 125) _ _ (λ _. tt) tt
live_step Closed c = live_next InTags c
live_step AfterLess c = live_test (c == 61) _ _ (λ _. tt) (live_test (c == 62) _ _ (λ _. tt) (live_value c))
live_step AfterGreater c = live_test (c == 61) _ _ (λ _. tt) (live_value c)
live_step AfterCompare c = live_value c
live_step AfterEqual c = live_test (c == 123) _ _ (λ _. tt) (live_value c)
live_step AfterMinus c = live_test (is_ascii_digit c) _ _ (λ _. omega arith) tt
live_step (InWhole n) c = live_test (is_ascii_digit c) _ _ (λ _. live_test (nat_lt n 18) _ _ (less_from n 18) tt) (live_test (c == 46) _ _ (λ _. tt) (live_next InTags c))
live_step AfterPoint c = live_test (is_ascii_digit c) _ _ (λ _. omega arith) tt
live_step (InFraction n) c = live_test (is_ascii_digit c) _ _ (λ _. live_test (nat_lt n 9) _ _ (less_from n 9) tt) (live_next InTags c)
live_step InText c = live_test (c == 34) _ _ (λ _. tt) tt
live_step AfterSlash c = live_test (c == 33) _ _ (λ _. tt) (live_open InTodo c)
live_step AfterBang c = live_open InTodo c

no_more : (p : Part) → More p []
no_more InTags = ([], tt, NoEnd, tt, refl)
no_more InTodo = ([], tt, refl)

no_more_name : (p : Part) → AfterName p []
no_more_name InTags = inl (no_more InTags)
no_more_name InTodo = no_more InTodo

final_rests : (s : State) → IsLive s → is_final s ≡ true → Rests s []
final_rests (InName p) l h = ([], refl, [], no_more_name p, refl)
final_rests Closed l h = no_more InTags
final_rests (InWhole n) l h = ([], [], omega arith, refl, omega arith, refl, [], no_more InTags, refl)
final_rests (InFraction n) l h = ([], omega arith, refl, [], no_more InTags, refl)
final_rests AfterBang l h = inl refl
final_rests Start l h = absurd cc
final_rests (Linked p) l h = absurd cc
final_rests (Signed p) l h = absurd cc
final_rests (Escaped p) l h = absurd cc
final_rests InPattern l h = absurd cc
final_rests AfterLess l h = absurd cc
final_rests AfterGreater l h = absurd cc
final_rests AfterCompare l h = absurd cc
final_rests AfterEqual l h = absurd cc
final_rests AfterMinus l h = absurd cc
final_rests AfterPoint l h = absurd cc
final_rests InText l h = absurd cc
final_rests AfterSlash l h = absurd cc

-- a state and one more character that leads to one that ends, and the character
abbrev Ending : State → Type 0
Ending s = (x : List ℕ) × Rests s x

through : (s t : State) (c : ℕ) → IsLive s → step s c ≡ Some t → Ending t → Ending s
through s t c l h e = (c ∷ e.0, pull s c e.0 l (rw h e.1))

at_end : (s : State) → IsLive s → is_final s ≡ true → Ending s
at_end s l h = ([], final_rests s l h)

after_digit : (s : State) → IsLive s → step s 48 ≡ Some (InWhole 1) → Ending s
after_digit s l h = through s (InWhole 1) 48 l h (at_end (InWhole 1) (omega arith) refl)

escaped_end : (p : Part) → Ending (Escaped p)
escaped_end p = through (Escaped p) (InName p) 45 tt refl (at_end (InName p) tt refl)

backslash_end : (p : Part) (s : State) → IsLive s → step s 92 ≡ Some (Escaped p) → Ending s
backslash_end p s l h = through s (Escaped p) 92 l h (escaped_end p)

by_part : (p : Part) → step (Linked p) 92 ≡ Some (Escaped p)
by_part InTags = refl
by_part InTodo = refl

by_part_signed : (p : Part) → step (Signed p) 92 ≡ Some (Escaped p)
by_part_signed InTags = refl
by_part_signed InTodo = refl

finish : (s : State) → IsLive s → Ending s
finish Start l = backslash_end InTags Start tt refl
finish (Linked p) l = backslash_end p (Linked p) tt (by_part p)
finish (Signed p) l = backslash_end p (Signed p) tt (by_part_signed p)
finish (InName p) l = at_end (InName p) tt refl
finish (Escaped p) l = escaped_end p
finish InPattern l = through InPattern Closed 125 tt refl (at_end Closed tt refl)
finish Closed l = at_end Closed tt refl
finish AfterLess l = after_digit AfterLess tt refl
finish AfterGreater l = after_digit AfterGreater tt refl
finish AfterCompare l = after_digit AfterCompare tt refl
finish AfterEqual l = after_digit AfterEqual tt refl
finish AfterMinus l = after_digit AfterMinus tt refl
finish (InWhole n) l = at_end (InWhole n) l refl
finish AfterPoint l = through AfterPoint (InFraction 1) 48 tt refl (at_end (InFraction 1) (omega arith) refl)
finish (InFraction n) l = at_end (InFraction n) l refl
finish InText l = through InText Closed 34 tt refl (at_end Closed tt refl)
finish AfterSlash l = backslash_end InTodo AfterSlash tt refl
finish AfterBang l = at_end AfterBang tt refl

-- ---- whole runs

-- what may follow the state that characters lead to may follow them
leads : (o : Option State) (cs x : List ℕ) → IsLiveAt o → RestsAt (run o cs) x → RestsAt o (cs ++ x)
leads o [] x l r = r
leads None (c ∷ cs) x l r = leads None cs x tt r
leads (Some s) (c ∷ cs) x l r = pull s c (cs ++ x) l (leads (step s c) cs x (live_step s c) r)

live_run : (o : Option State) (cs : List ℕ) → IsLiveAt o → IsLiveAt (run o cs)
live_run o [] l = l
live_run None (c ∷ cs) l = live_run None cs tt
live_run (Some s) (c ∷ cs) l = live_run (step s c) cs (live_step s c)

final_rests_at : (o : Option State) → IsLiveAt o → is_final_at o ≡ true → RestsAt o []
final_rests_at None l h = absurd cc
final_rests_at (Some s) l h = final_rests s l h

ending_at : (o : Option State) → IsLiveAt o → is_some o ≡ true → (x : List ℕ) × RestsAt o x
ending_at None l h = absurd cc
ending_at (Some s) l h = finish s l

-- what the automaton takes to an end is an expression
pub expr_of : (cs : List ℕ) → is_final_at (run (Some Start) cs) ≡ true → (e : Expr) × Reads cs e
expr_of cs h =
    let r = leads (Some Start) cs [] tt (final_rests_at (run (Some Start) cs) (live_run (Some Start) cs tt) h) in
    (r.0, record { is_expr = r.1; spelled = sym r.2 ∙ append-nil cs })

-- what it takes at all begins one
pub begins_of : (cs : List ℕ) → is_some (run (Some Start) cs) ≡ true → Begins cs
begins_of cs h =
    let end = ending_at (run (Some Start) cs) (live_run (Some Start) cs tt) h in
    let r = leads (Some Start) cs end.0 tt end.1 in
    (end.0, r.0, record { is_expr = r.1; spelled = sym r.2 })

-- and the converses
pub whole_of : (cs : List ℕ) (e : Expr) → Reads cs e → is_final_at (run (Some Start) cs) ≡ true
whole_of cs e r = ap (λ q. is_final_at (run (Some Start) q)) (sym r.spelled) ∙ accepts e r.is_expr

pub not_begins : (cs : List ℕ) → run (Some Start) cs ≡ None → ¬ Begins cs
not_begins cs h (rest, e, r) =
    let none : run (Some Start) (cs ++ rest) ≡ None = run-append (Some Start) cs rest ∙ ap (λ o. run o rest) h ∙ run_none rest in
    let bad : true ≡ false = sym (whole_of (cs ++ rest) e r) ∙ ap is_final_at none in cc

-- the longest front that the automaton takes
record Front (o : Option State) (cs : List ℕ) : Type 0 where
  front : List ℕ
  rest : List ℕ
  whole : cs ≡ front ++ rest
  len : reach o cs ≡ length (encode_utf8_all front)
  runs : is_some (run o front) ≡ true
  longest : (c : ℕ) (more : List ℕ) → rest ≡ c ∷ more → run o (front ++ c ∷ []) ≡ None

by_step : (o : Option State) (c : ℕ) (cs : List ℕ) → is_some o ≡ true → (u : Option State) → step_at o c ≡ u → (is_some u ≡ true → Front u cs) → Front o (c ∷ cs)
by_step o c cs h None e later = record {
  front = [];
  rest = c ∷ cs;
  whole = refl;
  len = rw e refl;
  runs = h;
  longest = λ d more f. let same : c ≡ d = cc in rw (← same) e;
}
by_step o c cs h (Some t) e later =
    let f = later refl in
    record {
      front = c ∷ f.front;
      rest = f.rest;
      whole = ap (λ q. c ∷ q) f.whole;
      len = rw (e, f.len, length-append (encode_utf8 c) (encode_utf8_all f.front), length-encode c) refl;
      runs = rw e f.runs;
      longest = λ d more g. ap (λ u. run u (f.front ++ d ∷ [])) e ∙ f.longest d more g;
    }

front_of : (cs : List ℕ) (o : Option State) → is_some o ≡ true → Front o cs
front_of [] o h = record { front = []; rest = []; whole = refl; len = refl; runs = h; longest = λ c more e. absurd cc }
front_of (c ∷ cs) o h = by_step o c cs h (step_at o c) refl (λ k. front_of cs (step_at o c) k)

-- the byte length that the scan answers is that of the longest front of an expression
pub longest_of : (cs : List ℕ) → IsLongestFront cs (reach (Some Start) cs)
longest_of cs =
    let f = front_of cs (Some Start) refl in
    record {
      front = f.front;
      rest = f.rest;
      whole = f.whole;
      len = f.len;
      begins = begins_of f.front f.runs;
      longest = λ c more e. not_begins (f.front ++ c ∷ []) (f.longest c more e);
    }
