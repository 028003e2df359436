-- Patterns that are of the dialect, and those that `regex` refuses.
use Rattle.std.proofs.Common.{◌≡◌, ◌∙◌, ◌⊎◌, ◌≤◌, inl, inr, ℕ, Bool, true, false, ◌&&◌, List, [], ◌∷◌, ◌++◌, ap, arith, refl, subst, sym}
use Rattle.std.specs.Prelude.{Option, None, Some, chars, encode_utf8_all, is_some}
use Rattle.std.specs.List.{AllByRecursion}
use Rattle.std.specs.Option.{option_to_list}
use Rattle.std.specs.Str.{IsUtf8, IsCharBoundary}
use Rattle.std.proofs.lemmas.Bool.{cases_Bool}
use Rattle.std.proofs.lemmas.List.Elements.{All-cons, All-nil, Contains-append_right}
use Rattle.std.proofs.lemmas.Str.{IsCharBoundary-start, chars-encodes}
use lib.Utf8.{scalar, scalars}
use Rattle.regex_syntax.specs.Grammar.{read}
use Rattle.regex_syntax.specs.Verdict.{Refuses}
use Rattle.regex_syntax.specs.declared.error.Error as parser
use Rattle.regex_syntax.specs.declared.error.ErrorKind.TheVariants as kind
use Rattle.regex.specs.Patterns.{default_config}
use Rattle.regex.specs.declared.error.Error.TheVariants.{Syntax}
use Rattle.org_expression.specs.Grammar.{Expr, Tags, Todo, Open, Item, item, Term, Tag, Found, Compare, Value, Number, Quoted, Pattern, Reads, spell, spell_item, spell_items, spell_link, spell_name, spell_op, spell_sign, spell_term, spell_value}
use Rattle.org_match.specs.Patterns.{IsReadable, IsRefused}
use Rattle.org_match.specs.Refusal.{AreReadable, IsPatternRefused, item_patterns, patterns, term_pattern, value_pattern}

-- characters of a front and of what follows it
abbrev AreScalars : List ℕ → Type 0
AreScalars cs = scalars cs ≡ true

front_scalars : (a b : List ℕ) → AreScalars (a ++ b) → AreScalars a
front_scalars [] b h = refl
front_scalars (c ∷ a) b h = by_test (scalar c) (scalars (a ++ b)) (scalars a) (front_scalars a b) h where
  by_test : (t x y : Bool) → (x ≡ true → y ≡ true) → (t && x) ≡ true → (t && y) ≡ true
  by_test true x y more h = more h
  by_test false x y more h = h

last_test : (t x : Bool) → (t && x) ≡ true → x ≡ true
last_test true x h = h
last_test false x h = absurd cc

behind_scalars : (a b : List ℕ) → AreScalars (a ++ b) → AreScalars b
behind_scalars [] b h = h
behind_scalars (c ∷ a) b h = behind_scalars a b (last_test (scalar c) (scalars (a ++ b)) h)

-- the patterns of an expression are of its characters
value_scalars : (v : Value) → AreScalars (spell_value v) → AllByRecursion AreScalars (option_to_list (value_pattern v))
value_scalars (Number n w f) h = tt
value_scalars (Quoted t) h = tt
value_scalars (Pattern p) h = (front_scalars p (125 ∷ []) (last_test (scalar 123) (scalars (p ++ 125 ∷ [])) h), tt)

term_scalars : (t : Term) → AreScalars (spell_term t) → AllByRecursion AreScalars (option_to_list (term_pattern t))
term_scalars (Tag name) h = tt
term_scalars (Found p) h = (front_scalars p (125 ∷ []) (last_test (scalar 123) (scalars (p ++ 125 ∷ [])) h), tt)
term_scalars (Compare name op v) h = value_scalars v (behind_scalars (spell_op op) (spell_value v) (behind_scalars (spell_name name) (spell_op op ++ spell_value v) h))

both_all : (ps qs : List (List ℕ)) → AllByRecursion AreScalars ps → AllByRecursion AreScalars qs → AllByRecursion AreScalars (ps ++ qs)
both_all [] qs h g = g
both_all (p ∷ ps) qs h g = (h.0, both_all ps qs h.1 g)

items_scalars : (is : List Item) → AreScalars (spell_items is) → AllByRecursion AreScalars (item_patterns is)
items_scalars [] h = tt
items_scalars (item link sign term ∷ is) h =
    let own : AreScalars (spell_term term) = behind_scalars (spell_sign sign) (spell_term term) (behind_scalars (spell_link link) (spell_sign sign ++ spell_term term)
    (front_scalars (spell_item (item link sign term)) (spell_items is) h)) in
    both_all (option_to_list (term_pattern term)) (item_patterns is) (term_scalars term own) (items_scalars is (behind_scalars (spell_item (item link sign term)) (spell_items is) h))

pattern_scalars : (e : Expr) → AreScalars (spell e) → AllByRecursion AreScalars (patterns e)
pattern_scalars (Tags tags) h = items_scalars tags h
pattern_scalars (Todo tags todo) h =
    both_all (item_patterns tags) (item_patterns todo) (items_scalars tags (front_scalars (spell_items tags) (47 ∷ spell_items todo) h))
    (items_scalars todo (last_test (scalar 47) (scalars (spell_items todo)) (behind_scalars (spell_items tags) (47 ∷ spell_items todo) h)))
pattern_scalars (Open tags todo) h =
    both_all (item_patterns tags) (item_patterns todo) (items_scalars tags (front_scalars (spell_items tags) (47 ∷ (33 ∷ spell_items todo)) h))
    (items_scalars todo (last_test (scalar 33) (scalars (spell_items todo)) (last_test (scalar 47) (scalars (33 ∷ spell_items todo)) (behind_scalars (spell_items tags) (47 ∷ (33 ∷ spell_items todo)) h))))

-- one that the dialect's grammar doesn't read is refused
an_error : parser.Error
an_error = record { kind = kind.ClassUnclosed; span = record { start = 0; end = 0 } }

not_read : {A : Type 0} (o : Option A) → is_some o ≡ false → o ≡ None
not_read None h = refl
not_read (Some x) h = absurd cc

same_error : (e : parser.Error) → Syntax an_error ≡ Syntax e → an_error ≡ e
same_error e h = cc

unreadable : (p : List ℕ) → AreScalars p → is_some (read default_config p) ≡ false → IsRefused (encode_utf8_all p)
unfolding IsRefused Refuses an_error
unreadable p whole none = (
  Syntax an_error,
  λ e. cc,
  (
    λ e is. inr (inl (ap (read default_config) (chars-encodes p whole) ∙ not_read (read default_config p) none)),
    λ e. cc,
    λ e is. subst (λ (x : parser.Error). (x.span.start ≤ x.span.end) × IsCharBoundary (encode_utf8_all p) x.span.start × IsCharBoundary (encode_utf8_all p) x.span.end) (same_error e is)
        (omega arith, IsCharBoundary-start (encode_utf8_all p) (p, (whole, refl)), IsCharBoundary-start (encode_utf8_all p) (p, (whole, refl))),
  ),
)

more_refused : (p : List ℕ) (ps : List (List ℕ)) → IsPatternRefused ps → IsPatternRefused (p ∷ ps)
more_refused p ps (q, within, refused) = (q, Contains-append_right (p ∷ []) ps q within, refused)

all_or_one : (ps : List (List ℕ)) → AllByRecursion AreScalars ps → AreReadable ps ⊎ IsPatternRefused ps
unfolding IsReadable
all_or_one [] whole = inl (All-nil IsReadable)
all_or_one (p ∷ ps) whole = elim (cases_Bool (is_some (read default_config p))) [
  | inl yes' ↦ elim (all_or_one ps whole.1) [
    | inl all ↦ inl (All-cons IsReadable p ps yes' all)
    | inr one ↦ inr (more_refused p ps one)
  ]
  | inr no' ↦ inr (p, (0, omega arith, refl), unreadable p whole.0 no')
]

-- of an expression all patterns are of the dialect, or `regex` refuses one
pub readable_or_refused : (text : List ℕ) → IsUtf8 text → (e : Expr) → Reads (chars text) e → AreReadable (patterns e) ⊎ IsPatternRefused (patterns e)
readable_or_refused text (cs, (whole, is)) e reads =
    let same : spell e ≡ cs = reads.spelled ∙ ap chars (sym is) ∙ chars-encodes cs whole in
    all_or_one (patterns e) (pattern_scalars e (ap scalars same ∙ whole))
