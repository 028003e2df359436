-- What the entries of a text have in all.
use Rattle.std.proofs.Common.{◌≡◌, ◌∙◌, ℕ, ◌+◌, ◌*◌, ◌^◌, ◌<◌, ◌≤◌, List, [], ◌∷◌, ◌++◌, length, map, refl, ap, arith, length-append}
use Rattle.std.specs.Prelude.{Option, Some, None, IfSome, codes, unwrap_or}
use Rattle.std.specs.List.{concat, flat_map}
use Rattle.std.specs.Option.{option_and_then}
use Rattle.std.proofs.lemmas.List.Concat.{flat_map-cons}
use Rattle.std.proofs.lemmas.List.Folds.{concat-append}
use Rattle.org_base.specs.Properties.{value_in}
use Rattle.org_class.proofs.Cuts.{concat-sections}
use Rattle.org_class.specs.Classes.{section_classes}
use Rattle.org_class.specs.Sections.{sections}
use Rattle.org_class.specs.declared.class.Class.{Class}
use Rattle.org_class.specs.declared.class.Class.TheVariants.{Heading, Planning, DrawerOpen, Node, DrawerEnd, BlockOpen, Verbatim, BlockEnd, Comment, Setting, Clock, Plain}
use Rattle.org_drawer.specs.Effort.{effort_of}
use Rattle.org_drawer.specs.Node.{drawer_of}
use Rattle.org_entry.specs.Entry.{PlacedLine, entry_of, nodes_of, placed}
use Rattle.org_entry.specs.declared.entry.Entry.{Entry}
use Rattle.org_lines.proofs.LineLemmas.{concat-lines}
use Rattle.org_lines.specs.Cuts.{lines}
use Rattle.org_settings.specs.Settings.{FileSettings}
use Rattle.org_sum.proofs.EffortSizes.{effort_long, effort_small}
use Rattle.org_sum.proofs.SizeLemmas.{clocks_are_small}
use Rattle.org_sum.specs.Laws.{EffortsAreSmall}
use Rattle.org_sum.specs.Measures.{amount, effort_minutes, clock_minutes}
use Rattle.org_sum.specs.Sums.{total}
use Rattle.org_sum.specs.Texts.{AreOfText, IsOfCalendar}
use Rattle.org_sum.specs.declared.measure.Measure.{Measure}
use Rattle.org_sum.specs.declared.measure.Measure.TheVariants.{Clocks, Efforts}

class_nodes : (class : Class) (bytes : List ℕ) → length (concat (nodes_of class bytes)) ≤ length bytes
class_nodes Node bytes = omega (arith, length-append bytes [])
class_nodes Heading bytes = omega arith
class_nodes Planning bytes = omega arith
class_nodes DrawerOpen bytes = omega arith
class_nodes DrawerEnd bytes = omega arith
class_nodes BlockOpen bytes = omega arith
class_nodes Verbatim bytes = omega arith
class_nodes BlockEnd bytes = omega arith
class_nodes Comment bytes = omega arith
class_nodes Setting bytes = omega arith
class_nodes Clock bytes = omega arith
class_nodes Plain bytes = omega arith

-- the node lines of lines
abbrev nodes : ℕ → List (List ℕ) → List Class → List (List ℕ)
nodes at ls cs = flat_map (λ (l : PlacedLine). nodes_of l.class l.bytes) (placed at ls cs)

nodes_within : (at : ℕ) (ls : List (List ℕ)) (cs : List Class) → length (concat (nodes at ls cs)) ≤ length (concat ls)
nodes_within at [] cs = omega arith
nodes_within at (l ∷ ls) [] = omega arith
nodes_within at (l ∷ ls) (c ∷ cs) =
    let rest = nodes (at + length l) ls cs in
    let more : concat (nodes at (l ∷ ls) (c ∷ cs)) ≡ concat (nodes_of c l) ++ concat rest =
    ap concat (flat_map-cons (λ (l : PlacedLine). nodes_of l.class l.bytes) (record { at = at; class = c; bytes = l }) (placed (at + length l) ls cs)) ∙ concat-append (nodes_of c l) rest in
    omega (arith, ap length more, length-append (concat (nodes_of c l)) (concat rest), class_nodes c l, nodes_within (at + length l) ls cs, length-append l (concat ls))

effort_by : (own : List (List ℕ)) (value : Option (List ℕ)) (o : Option ℕ) → value_in (drawer_of own) (codes "EFFORT") ≡ value → option_and_then effort_of value ≡ o →
    10 * unwrap_or o 0 ≤ 5_259_074_040 * length (concat own)
effort_by own None (Some m) is e = absurd cc
effort_by own None None is e = omega arith
effort_by own (Some v) None is e = omega arith
effort_by own (Some v) (Some m) is e =
    let long = effort_long own m (ap (option_and_then effort_of) is ∙ e) in
    omega (arith, long, small (effort_of v) (effort_small v) e)
  where
    small : (o : Option ℕ) → IfSome o (λ n. n ≤ 5_259_074_040) → o ≡ Some m → m ≤ 5_259_074_040
    small None h k = absurd cc
    small (Some n) h k = let same : n ≡ m = cc in omega (arith, h, same)

entry_efforts : (settings : FileSettings) (section : List ℕ) → 10 * effort_minutes (entry_of settings section) ≤ 5_259_074_040 * length section
unfolding effort_minutes
entry_efforts settings section =
    let own = nodes 0 (lines section) (section_classes section) in
    let whole : length (concat (lines section)) ≡ length section = ap length (concat-lines section) in
    omega (arith, effort_by own (value_in (drawer_of own) (codes "EFFORT")) _ refl refl, nodes_within 0 (lines section) (section_classes section), whole)

sections_efforts : (settings : FileSettings) (ts : List (List ℕ)) → 10 * total effort_minutes (map (entry_of settings) ts) ≤ 5_259_074_040 * length (concat ts)
sections_efforts settings [] = omega arith
sections_efforts settings (t ∷ ts) =
    omega (arith, entry_efforts settings t, sections_efforts settings ts, length-append t (concat ts))

pub efforts_are_small : EffortsAreSmall
efforts_are_small settings text =
    let whole : length (concat (sections text)) ≡ length text = ap length (concat-sections text) in
    omega (arith, sections_efforts settings (sections text), whole)

-- the entries of one text have less than the 256th part of 2^63 minutes
pub text_small : (measure : Measure) (es : List Entry) → IsOfCalendar measure → AreOfText es → total (amount measure) es < 2 ^ 55
text_small (Clocks period) es within of =
    let same = ap (total (clock_minutes (period.first, period.last))) of.are in
    omega (arith, clocks_are_small of.settings (period.first, period.last) of.text within, of.short, same)
text_small Efforts es within of =
    let same = ap (total effort_minutes) of.are in
    omega (arith, efforts_are_small of.settings of.text, of.short, same)
