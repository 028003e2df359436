-- Marks among marks.
use Rattle.std.proofs.Common.{◌≡◌, ◌≢◌, ◌⊎◌, ℕ, inl, inr, List, [], ◌∷◌, ◌++◌, map, length, refl, sym, ap, ◌∙◌, subst, arith}
use Rattle.std.specs.Prelude.{Bool, true, false, not, ◌==◌, Option, Some, None}
use Rattle.std.proofs.lemmas.Bool.{and_parts, and_from, ne_eqb}
use Rattle.org_class.specs.declared.class.Class.{Class}
use Rattle.org_class.specs.declared.class.Class.TheVariants as class
use Rattle.org_drawer.specs.Clock.{clock_of}
use Rattle.org_drawer.specs.declared.clock.ClockLine.{ClockLine}
use Rattle.org_lines.specs.Cuts.{Cut}
use Rattle.org_check.specs.declared.look.Look.{Look}
use Rattle.org_check.specs.declared.look.Look.TheVariants as look
use Rattle.org_check.specs.declared.look.Mark.{Mark}
use Rattle.org_check.specs.Marks.{counts_nothing_in, cut_marks, has_stamps, indent, is_clock_class, is_nothing, is_stray_drawer, is_stray_planning, is_unclosed_block, is_unread_clock, line_marks, mark_at, mark_if, stamp_marks}
use Rattle.org_check.specs.Marked.{CountsNothing, IsLineOf, IsMarkOf, IsOfLine, LooksLost}
use Rattle.org_check.specs.UnreadStamps.{IsAmong, unread_in}
use Rattle.org_check.proofs.ClockLemmas.{these_count_nothing}
use Rattle.org_check.proofs.UnreadLemmas.{unread_are_found}

in_front : (m : Mark) (a b : List Mark) → IsMarkOf m a → IsMarkOf m (a ++ b)
in_front m [] b has = absurd has
in_front m (n ∷ a) b (inl is) = inl is
in_front m (n ∷ a) b (inr has) = inr (in_front m a b has)

in_back : (m : Mark) (a b : List Mark) → IsMarkOf m b → IsMarkOf m (a ++ b)
in_back m [] b has = has
in_back m (n ∷ a) b has = inr (in_back m a b has)

in_either : (m : Mark) (a b : List Mark) → IsMarkOf m (a ++ b) → IsMarkOf m a ⊎ IsMarkOf m b
in_either m [] b has = inr has
in_either m (n ∷ a) b (inl is) = inl (inl is)
in_either m (n ∷ a) b (inr has) = elim (in_either m a b has) [ inl here ↦ inl (inr here) | inr there ↦ inr there ]

has_if : (t : Bool) (what : Look) (at p : ℕ) → t ≡ true → IsMarkOf (mark_at what at p) (mark_if t what at p)
has_if true what at p is = inl refl
has_if false what at p is = absurd (cc)

if_has : (t : Bool) (what : Look) (at p : ℕ) (m : Mark) → IsMarkOf m (mark_if t what at p) → (t ≡ true) × (m ≡ mark_at what at p)
if_has true what at p m (inl is) = (refl, is)
if_has true what at p m (inr has) = absurd has
if_has false what at p m has = absurd has

has_stamp : (at p : ℕ) (ps : List ℕ) → IsAmong p ps → IsMarkOf (mark_at look.Stamp at p) (map (mark_at look.Stamp at) ps)
has_stamp at p [] has = absurd has
has_stamp at p (q ∷ ps) (inl is) = inl (ap (mark_at look.Stamp at) is)
has_stamp at p (q ∷ ps) (inr has) = inr (has_stamp at p ps has)

stamp_has : (at : ℕ) (m : Mark) (ps : List ℕ) → IsMarkOf m (map (mark_at look.Stamp at) ps) → (p : ℕ) × IsAmong p ps × (m ≡ mark_at look.Stamp at p)
stamp_has at m [] has = absurd has
stamp_has at m (q ∷ ps) (inl is) = (q, inl refl, is)
stamp_has at m (q ∷ ps) (inr has) = let more = stamp_has at m ps has in (more.0, inr more.1, more.2)

has_stamp_if : (t : Bool) (at p : ℕ) (line : List ℕ) → t ≡ true → IsAmong p (unread_in line) → IsMarkOf (mark_at look.Stamp at p) (stamp_marks t at line)
has_stamp_if true at p line is has = has_stamp at p (unread_in line) has
has_stamp_if false at p line is has = absurd (cc)

stamp_if_has : (t : Bool) (at : ℕ) (m : Mark) (line : List ℕ) → IsMarkOf m (stamp_marks t at line) → (t ≡ true) × ((p : ℕ) × IsAmong p (unread_in line) × (m ≡ mark_at look.Stamp at p))
stamp_if_has true at m line has = (refl, stamp_has at m (unread_in line) has)
stamp_if_has false at m line has = absurd has

named : (name : List ℕ) → name ≢ [] → not (length name == 0) ≡ true
named [] some = absurd (some refl)
named (b ∷ bs) some = ap not (ne_eqb (length (b ∷ bs)) 0 (λ e. absurd (omega (arith, e))))

is_named : (name : List ℕ) → not (length name == 0) ≡ true → name ≢ []
is_named [] is = λ e. absurd (let no : false ≡ true = is in cc)
is_named (b ∷ bs) is = λ e. absurd (cc)

-- a clock of a line that counts nothing in any period
is_clock : (c : Class) → is_clock_class c ≡ true → c ≡ class.Clock
is_clock class.Heading is = absurd (let never : false ≡ true = is in cc)
is_clock class.Planning is = absurd (let never : false ≡ true = is in cc)
is_clock class.DrawerOpen is = absurd (let never : false ≡ true = is in cc)
is_clock class.Node is = absurd (let never : false ≡ true = is in cc)
is_clock class.DrawerEnd is = absurd (let never : false ≡ true = is in cc)
is_clock class.Clock is = refl
is_clock class.Setting is = absurd (let never : false ≡ true = is in cc)
is_clock class.Comment is = absurd (let never : false ≡ true = is in cc)
is_clock class.BlockOpen is = absurd (let never : false ≡ true = is in cc)
is_clock class.Verbatim is = absurd (let never : false ≡ true = is in cc)
is_clock class.BlockEnd is = absurd (let never : false ≡ true = is in cc)
is_clock class.Plain is = absurd (let never : false ≡ true = is in cc)

counted : (line : List ℕ) (o : Option ClockLine) → clock_of line ≡ o → is_nothing o ≡ true → CountsNothing line
counted line None read is = absurd (let never : false ≡ true = is in cc)
counted line (Some clock) read is = record { clock = clock; is = read; none = (these_count_nothing clock).0 is }

nothing : (line : List ℕ) → CountsNothing line → is_nothing (clock_of line) ≡ true
nothing line counts = ap is_nothing counts.is ∙ (these_count_nothing counts.clock).1 counts.none

-- the marks of a line in front of those of its stamps, from the last kind to the first
abbrev one : Class → ℕ → List ℕ → List Mark
one c at line = mark_if (is_stray_planning c line) look.Planning at (indent line)

abbrev two : Class → ℕ → List ℕ → List Mark
two c at line = one c at line ++ mark_if (is_stray_drawer c line) look.Drawer at (indent line)

abbrev three : Class → ℕ → List ℕ → List Mark
three c at line = two c at line ++ mark_if (is_unclosed_block c line) look.Block at (indent line)

abbrev four : Class → ℕ → List ℕ → List Mark
four c at line = three c at line ++ mark_if (is_unread_clock c line) look.Clock at (indent line)

abbrev five : Class → ℕ → List ℕ → List Mark
five c at line = four c at line ++ mark_if (counts_nothing_in c line) look.Minutes at (indent line)

-- what looks so in a line has its mark among those of the line
line_marked : (c : Class) (at : ℕ) (line : List ℕ) (what : Look) (p : ℕ) → LooksLost what c line p → IsMarkOf (mark_at what at p) (line_marks c at line)
line_marked c at line look.Planning p (text, word, first) =
    subst (λ q. IsMarkOf (mark_at look.Planning at q) (line_marks c at line)) (sym first)
    (in_front _ _ _ (in_front _ _ _ (in_front _ _ _ (in_front _ _ _ (in_front _ _ _ (has_if (is_stray_planning c line) look.Planning at (indent line) (and_from _ _ text word)))))))
line_marked c at line look.Drawer p (text, word, first) =
    subst (λ q. IsMarkOf (mark_at look.Drawer at q) (line_marks c at line)) (sym first)
    (in_front _ _ _ (in_front _ _ _ (in_front _ _ _ (in_front _ _ _ (in_back _ (one c at line) _ (has_if (is_stray_drawer c line) look.Drawer at (indent line) (and_from _ _ text word)))))))
line_marked c at line look.Block p (text, word, first) =
    subst (λ q. IsMarkOf (mark_at look.Block at q) (line_marks c at line)) (sym first)
    (in_front _ _ _ (in_front _ _ _ (in_front _ _ _ (in_back _ (two c at line) _ (has_if (is_unclosed_block c line) look.Block at (indent line) (and_from _ _ text (named _ word)))))))
line_marked c at line look.Clock p (text, word, first) =
    subst (λ q. IsMarkOf (mark_at look.Clock at q) (line_marks c at line)) (sym first)
    (in_front _ _ _ (in_front _ _ _ (in_back _ (three c at line) _ (has_if (is_unread_clock c line) look.Clock at (indent line) (and_from _ _ text word)))))
line_marked c at line look.Minutes p (clock, counts, first) =
    subst (λ q. IsMarkOf (mark_at look.Minutes at q) (line_marks c at line)) (sym first)
    (in_front _ _ _ (in_back _ (four c at line) _ (has_if (counts_nothing_in c line) look.Minutes at (indent line) (and_from _ _ (ap is_clock_class clock) (nothing line counts)))))
line_marked c at line look.Stamp p (wanted, looks) =
    in_back _ (five c at line) _ (has_stamp_if (has_stamps c) at p line wanted ((unread_are_found line p).1 looks))

pub all_are_marked : (lines : List Cut) (classes : List Class) (l : Cut) (c : Class) (what : Look) (p : ℕ) → IsLineOf l c lines classes → LooksLost what c l.bytes p → IsMarkOf (record { line_at = l.at; place = p; look = what }) (cut_marks lines classes)
all_are_marked [] classes l c what p is looks = absurd is
all_are_marked (k ∷ lines) [] l c what p is looks = absurd is
all_are_marked (k ∷ lines) (d ∷ classes) l c what p (inl (same, class)) looks =
    in_front _ _ _ (subst (λ (x : Cut). IsMarkOf (mark_at what l.at p) (line_marks d x.at x.bytes)) same (subst (λ (x : Class). IsMarkOf (mark_at what l.at p) (line_marks x l.at l.bytes)) class (line_marked c l.at l.bytes what p looks)))
all_are_marked (k ∷ lines) (d ∷ classes) l c what p (inr later) looks =
    in_back _ (line_marks d k.at k.bytes) _ (all_are_marked lines classes l c what p later looks)

-- a mark of a line is of what looks so in it
abbrev IsOf : Class → ℕ → List ℕ → Mark → Type 0
IsOf c at line m = (m.line_at ≡ at) × LooksLost m.look c line m.place

is_of : (c : Class) (at : ℕ) (line : List ℕ) (m : Mark) (what : Look) (p : ℕ) → m ≡ mark_at what at p → LooksLost what c line p → IsOf c at line m
is_of c at line m what p same looks = subst (IsOf c at line) (sym same) (refl, looks)

marked_line : (c : Class) (at : ℕ) (line : List ℕ) (m : Mark) → IsMarkOf m (line_marks c at line) → IsOf c at line m
marked_line c at line m has =
    elim (in_either m (five c at line) _ has) [
      | inr stamp ↦ of_stamp c at line m stamp
      | inl front ↦ elim (in_either m (four c at line) _ front) [
        | inr minutes ↦ let is = if_has (counts_nothing_in c line) look.Minutes at (indent line) m minutes in let parts = and_parts _ _ is.0 in is_of c at line m look.Minutes (indent line) is.1 (is_clock c parts.0, counted line (clock_of line) refl parts.1, refl)
        | inl fourth ↦ elim (in_either m (three c at line) _ fourth) [
          | inr clock ↦ let is = if_has (is_unread_clock c line) look.Clock at (indent line) m clock in let parts = and_parts _ _ is.0 in is_of c at line m look.Clock (indent line) is.1 (parts.0, parts.1, refl)
          | inl third ↦ elim (in_either m (two c at line) _ third) [
            | inr block ↦ let is = if_has (is_unclosed_block c line) look.Block at (indent line) m block in let parts = and_parts _ _ is.0 in is_of c at line m look.Block (indent line) is.1 (parts.0, is_named _ parts.1, refl)
            | inl second ↦ elim (in_either m (one c at line) _ second) [
              | inr drawer ↦ let is = if_has (is_stray_drawer c line) look.Drawer at (indent line) m drawer in let parts = and_parts _ _ is.0 in is_of c at line m look.Drawer (indent line) is.1 (parts.0, parts.1, refl)
              | inl planning ↦ let is = if_has (is_stray_planning c line) look.Planning at (indent line) m planning in let parts = and_parts _ _ is.0 in is_of c at line m look.Planning (indent line) is.1 (parts.0, parts.1, refl)
            ]
          ]
        ]
      ]
    ]
  where
    of_stamp : (c : Class) (at : ℕ) (line : List ℕ) (m : Mark) → IsMarkOf m (stamp_marks (has_stamps c) at line) → IsOf c at line m
    of_stamp c at line m stamp =
        let is = stamp_if_has (has_stamps c) at m line stamp in
        is_of c at line m look.Stamp is.1.0 is.1.2 (is.0, (unread_are_found line is.1.0).0 is.1.1)

pub marks_are_true : (lines : List Cut) (classes : List Class) (m : Mark) → IsMarkOf m (cut_marks lines classes) → IsOfLine lines classes m
marks_are_true [] classes m has = absurd has
marks_are_true (k ∷ lines) [] m has = absurd has
marks_are_true (k ∷ lines) (d ∷ classes) m has =
    elim (in_either m (line_marks d k.at k.bytes) _ has) [
      | inl here ↦ let is = marked_line d k.at k.bytes m here in record { line = k; class = d; line_is = inl (refl, refl); at_is = is.0; looks = is.1 }
      | inr later ↦ let is = marks_are_true lines classes m later in record { line = is.line; class = is.class; line_is = inr is.line_is; at_is = is.at_is; looks = is.looks }
    ]
