-- The entry of a heading behind an act on its clock.
use Rattle.std.proofs.Common.{◌≡◌, ◌∙◌, inl, inr, ℕ, ◌+◌, ◌-◌, ◌≤◌, ◌==◌, Bool, true, false, List, [], ◌∷◌, ◌++◌, length, map, take, drop, reverse, refl, sym, ap, subst, arith, length-drop}
use Rattle.std.specs.Prelude.{Option, Some, None, codes}
use Rattle.std.specs.List.{flat_map, list_all, list_any, position_or_len, prefix_len, suffix_len}
use Rattle.std.specs.Option.{option_to_list}
use Rattle.std.specs.Char.{to_ascii_lowercase}
use Rattle.std.proofs.lemmas.Bool.{and_parts, cases_Bool, eqb-true}
use Rattle.std.proofs.lemmas.List.{length-reverse, reverse-append, reverse-reverse, take-append-drop}
use Rattle.std.proofs.lemmas.List.Folds.{list_any-append}
use Rattle.std.proofs.lemmas.Slice.Eq.{bytes_eq-Decides}
use Rattle.std.proofs.Math.Seq.{drop-append_seam}
use Rattle.org_act.specs.ClockEntries.{OneClockCloses, OneClockGoes, SaysElse, closed, running, unplaced}
use Rattle.org_act.proofs.GivenLemmas.{gives, gives_is, gives_three, head_both, head_is, head_over, stamps_given, stamps_is}
use Rattle.org_act.proofs.OverLemmas.{all_over}
use Rattle.org_amend.specs.CancelLaws.{AreGone, AreKept, alone, drawer}
use Rattle.org_amend.specs.Clocks.{first_running}
use Rattle.org_amend.specs.Places.{is_logbook}
use Rattle.org_amend.proofs.EndLemmas.{since_is}
use Rattle.org_base.specs.Words.{is_gap, same_word, trim_start, trimmed}
use Rattle.org_class.specs.Classes.{section_classes}
use Rattle.org_class.specs.Drawers.{is_drawer_end}
use Rattle.org_class.specs.declared.class.Class.{Class}
use Rattle.org_class.specs.declared.class.Class.TheVariants.{Clock, Plain}
use Rattle.org_drawer.specs.Clock.{clock_of}
use Rattle.org_drawer.specs.Node.{drawer_of}
use Rattle.org_drawer.specs.declared.clock.ClockLine.{ClockLine}
use Rattle.org_entry.specs.Entry.{active_at, clocks_of, entry_of, entry_of_lines, if_active, nodes_of, placed, text_of}
use Rattle.org_entry.specs.declared.entry.Entry.{Entry}
use Rattle.org_head.specs.declared.head.Head.{Head}
use Rattle.org_head.proofs.Runs.{all-reverse, passes_front}
use Rattle.org_lines.specs.Cuts.{lines}
use Rattle.org_settings.specs.Settings.{FileSettings}
use Rattle.org_stamp.specs.Stamp.{is_close}
use Rattle.org_stamp.proofs.LineLemmas.{none_unclosed}

-- lines without a closing bracket

any_false : (p : ℕ → Bool) (x : ℕ) (xs : List ℕ) → list_any p (x ∷ xs) ≡ false → (p x ≡ false) × (list_any p xs ≡ false)
any_false p x xs h = elim (cases_Bool (p x)) [
  | inl e ↦ absurd (let wrong : true ≡ false = rw e at h in cc)
  | inr e ↦ (e, rw e at h)
]

gap_open : (b : ℕ) → is_gap b ≡ true → is_close b ≡ false
gap_open b h = elim (cases_Bool (b == 62)) [
  | inl e ↦ absurd (let is : b ≡ 62 = eqb-true b 62 e in let wrong : false ≡ true = ap is_gap (sym is) ∙ h in cc)
  | inr e ↦ elim (cases_Bool (b == 93)) [
    | inl f ↦ absurd (let is : b ≡ 93 = eqb-true b 93 f in let wrong : false ≡ true = ap is_gap (sym is) ∙ h in cc)
    | inr f ↦ rw (e, f) refl
  ]
]

gaps_open : (bs : List ℕ) → list_all is_gap bs ≡ true → list_any is_close bs ≡ false
gaps_open [] h = refl
gaps_open (b ∷ bs) h = let both = and_parts (is_gap b) (list_all is_gap bs) h in let one = gap_open b both.0 in rw one (gaps_open bs both.1)

-- the gaps at the end
gaps_end : (bs : List ℕ) → list_all is_gap (drop (length bs - suffix_len is_gap bs) bs) ≡ true
gaps_end bs =
    let back = reverse bs in
    let n = prefix_len is_gap back in
    let front = reverse (drop n back) in
    let joined : bs ≡ front ++ reverse (take n back) = sym (reverse-reverse bs) ∙ (ap reverse (sym (take-append-drop n back)) ∙ reverse-append (take n back) (drop n back)) in
    let count : length front ≡ length bs - n = length-reverse (drop n back) ∙ (length-drop n back ∙ ap (λ k. k - n) (length-reverse bs)) in
    ap (λ m. list_all is_gap (drop m bs)) (sym count)
    ∙ (ap (λ l. list_all is_gap (drop (length front) l)) joined
    ∙ (ap (list_all is_gap) (drop-append_seam front (reverse (take n back)))
    ∙ all-reverse is_gap (take n back) (passes_front is_gap back)))

open_joined : (a b : List ℕ) → list_any is_close a ≡ false → list_any is_close b ≡ false → list_any is_close (a ++ b) ≡ false
open_joined a b h k = list_any-append is_close a b ∙ (rw (h, k) refl)

trimmed_open : (l : List ℕ) → list_any is_close (trimmed l) ≡ false → list_any is_close l ≡ false
trimmed_open l h =
    let t = trim_start l in
    let n = length t - suffix_len is_gap t in
    let whole : t ≡ take n t ++ drop n t = sym (take-append-drop n t) in
    let start : list_any is_close t ≡ false = ap (list_any is_close) whole ∙ open_joined (take n t) (drop n t) h (gaps_open (drop n t) (gaps_end t)) in
    let m = prefix_len is_gap l in
    ap (list_any is_close) (sym (take-append-drop m l)) ∙ open_joined (take m l) (drop m l) (gaps_open (take m l) (passes_front is_gap l)) start

small_open : (b : ℕ) → is_close (to_ascii_lowercase b) ≡ false → is_close b ≡ false
small_open b h = elim (cases_Bool (b == 62)) [
  | inl e ↦ absurd (let is : b ≡ 62 = eqb-true b 62 e in let wrong : true ≡ false = ap (λ x. is_close (to_ascii_lowercase x)) (sym is) ∙ h in cc)
  | inr e ↦ elim (cases_Bool (b == 93)) [
    | inl f ↦ absurd (let is : b ≡ 93 = eqb-true b 93 f in let wrong : true ≡ false = ap (λ x. is_close (to_ascii_lowercase x)) (sym is) ∙ h in cc)
    | inr f ↦ rw (e, f) refl
  ]
]

small_all_open : (bs : List ℕ) → list_any is_close (map to_ascii_lowercase bs) ≡ false → list_any is_close bs ≡ false
small_all_open [] h = refl
small_all_open (b ∷ bs) h =
    let both = any_false is_close (to_ascii_lowercase b) (map to_ascii_lowercase bs) h in
    let one = small_open b both.0 in
    rw one (small_all_open bs both.1)

word_open : (l w : List ℕ) → same_word (trimmed l) w ≡ true → list_any is_close (map to_ascii_lowercase w) ≡ false → list_any is_close l ≡ false
word_open l w same none =
    let is : map to_ascii_lowercase (trimmed l) ≡ map to_ascii_lowercase w = (bytes_eq-Decides (map to_ascii_lowercase (trimmed l)) (map to_ascii_lowercase w)).0 same in
    trimmed_open l (small_all_open (trimmed l) (ap (list_any is_close) is ∙ none))

none_before : (bytes : List ℕ) → list_any is_close bytes ≡ false → length bytes ≤ position_or_len is_close bytes
none_before [] h = omega arith
none_before (b ∷ bytes) h =
    let both = any_false is_close b bytes h in
    let rest = none_before bytes both.1 in
    let more : position_or_len is_close (b ∷ bytes) ≡ 1 + position_or_len is_close bytes = rw (both.0) (omega arith) in
    omega (arith, rest, more)

no_stamps : (line : List ℕ) → list_any is_close line ≡ false → active_at 0 line ≡ []
no_stamps line h = ap (flat_map (if_active 0)) (none_unclosed line 0 (none_before line h))

-- what the lines that go give, and what an empty line gives

plain_gives : (settings : FileSettings) (l : List ℕ) → list_any is_close l ≡ false → stamps_given settings Plain l ≡ []
plain_gives settings l none = ap (map unplaced) (no_stamps l none)

logbook_open : (l : List ℕ) → is_logbook l ≡ true → list_any is_close l ≡ false
logbook_open l h = word_open l (codes ":LOGBOOK:") h refl

end_open : (l : List ℕ) → is_drawer_end l ≡ true → list_any is_close l ≡ false
end_open l h = word_open l (codes ":END:") h refl

-- of the four kinds, what lines of classes Clock and Plain give that go
record GivesClock (settings : FileSettings) (from : ℕ) (ls : List (List ℕ)) (cs : List Class) : Type 0 where
  size : length cs ≡ length ls
  texts : gives text_of ls cs ≡ []
  nodes : gives nodes_of ls cs ≡ []
  stamps : gives (stamps_given settings) ls cs ≡ []
  clocks : gives clocks_of ls cs ≡ running from ∷ []
  head : (so_far : Option Head) → head_over settings so_far ls cs ≡ so_far

record GivesNothing (settings : FileSettings) (ls : List (List ℕ)) (cs : List Class) : Type 0 where
  size : length cs ≡ length ls
  texts : gives text_of ls cs ≡ []
  nodes : gives nodes_of ls cs ≡ []
  stamps : gives (stamps_given settings) ls cs ≡ []
  clocks : gives clocks_of ls cs ≡ []
  head : (so_far : Option Head) → head_over settings so_far ls cs ≡ so_far

clock_here : (l : List ℕ) (clock : ClockLine) → clock_of l ≡ Some clock → clocks_of Clock l ≡ clock ∷ []
clock_here l clock is = ap option_to_list is

gone_gives : (settings : FileSettings) (from : ℕ) (ls : List (List ℕ)) (cs : List Class) → AreGone from ls cs → GivesClock settings from ls cs
unfolding gives head_over
gone_gives settings from _ _ (alone _ clock runs) =
    let is = clock_here clock (running from) (since_is clock from runs) in
    record { size = refl; texts = refl; nodes = refl; stamps = refl; clocks = ap (λ xs. xs ++ []) is; head = λ h. refl }
gone_gives settings from _ _ (drawer _ first clock last opens runs ends) =
    let is = clock_here clock (running from) (since_is clock from runs) in
    let one = plain_gives settings first (logbook_open first opens) in
    let two = plain_gives settings last (end_open last ends) in
    record {
      size = refl;
      texts = refl;
      nodes = refl;
      stamps = ap (λ xs. xs ++ (stamps_given settings Plain last ++ [])) one ∙ ap (λ xs. xs ++ []) two;
      clocks = ap (λ xs. xs ++ []) is;
      head = λ h. refl;
    }

kept_gives : (settings : FileSettings) (ls : List (List ℕ)) → AreKept ls → GivesNothing settings ls (map (λ l. Plain) ls)
unfolding gives head_over
kept_gives settings ls (inl none) = subst (λ xs. GivesNothing settings xs (map (λ l. Plain) xs)) (sym none) (record { size = refl; texts = refl; nodes = refl; stamps = refl; clocks = refl; head = λ h. refl })
kept_gives settings ls (inr (line, is, blank)) =
    let none = plain_gives settings line (gaps_open line blank) in
    subst (λ xs. GivesNothing settings xs (map (λ l. Plain) xs)) (sym is) (record { size = refl; texts = refl; nodes = refl; stamps = ap (λ xs. xs ++ []) none; clocks = refl; head = λ h. refl })

-- an entry by what its lines give

parts_of : (settings : FileSettings) (section : List ℕ) (ls : List (List ℕ)) (cs : List Class) → lines section ≡ ls → section_classes section ≡ cs → entry_of settings section ≡ entry_of_lines settings (placed 0 ls cs)
parts_of settings section ls cs l c = ap (λ xs. entry_of_lines settings (placed 0 xs (section_classes section))) l ∙ ap (λ ys. entry_of_lines settings (placed 0 ls ys)) c

record IsGiven (settings : FileSettings) (e : Entry) (ls : List (List ℕ)) (cs : List Class) : Type 0 where
  text : e.text ≡ gives text_of ls cs
  head : e.head ≡ head_over settings None ls cs
  drawer_is : e.details.drawer ≡ drawer_of (gives nodes_of ls cs)
  stamps : map unplaced e.details.stamps ≡ gives (stamps_given settings) ls cs
  clocks : e.details.clocks ≡ gives clocks_of ls cs

given : (settings : FileSettings) (section : List ℕ) (ls : List (List ℕ)) (cs : List Class) → lines section ≡ ls → section_classes section ≡ cs → IsGiven settings (entry_of settings section) ls cs
given settings section ls cs l c = subst (λ e. IsGiven settings e ls cs) (sym (parts_of settings section ls cs l c)) (record {
  text = gives_is text_of 0 ls cs;
  head = head_is settings None 0 ls cs;
  drawer_is = ap drawer_of (gives_is nodes_of 0 ls cs);
  stamps = stamps_is settings 0 ls cs;
  clocks = gives_is clocks_of 0 ls cs;
})

-- lines that give the same but for clocks, between the same lines
same_else : (settings : FileSettings) (old new : Entry) (xs ys vs zs : List (List ℕ)) (cs ds fs es : List Class) → length cs ≡ length xs → length ds ≡ length ys → length fs ≡ length vs →
    IsGiven settings old (xs ++ (ys ++ zs)) (cs ++ (ds ++ es)) → IsGiven settings new (xs ++ (vs ++ zs)) (cs ++ (fs ++ es)) →
    gives text_of vs fs ≡ gives text_of ys ds → gives nodes_of vs fs ≡ gives nodes_of ys ds → gives (stamps_given settings) vs fs ≡ gives (stamps_given settings) ys ds →
    ((h : Option Head) → head_over settings h vs fs ≡ head_over settings h ys ds) → SaysElse old new
same_else settings old new xs ys vs zs cs ds fs es one two three was is texts nodes stamps head = record {
  text = is.text ∙ (middle text_of texts ∙ sym was.text);
  head = is.head ∙ (heads ∙ sym was.head);
  drawer = is.drawer_is ∙ (ap drawer_of (middle nodes_of nodes) ∙ sym was.drawer_is);
  stamps = is.stamps ∙ (middle (stamps_given settings) stamps ∙ sym was.stamps);
}
  where
    middle : {X : Type 0} (give : Class → List ℕ → List X) → gives give vs fs ≡ gives give ys ds → gives give (xs ++ (vs ++ zs)) (cs ++ (fs ++ es)) ≡ gives give (xs ++ (ys ++ zs)) (cs ++ (ds ++ es))
    middle give same = gives_three give xs vs zs cs fs es one three ∙ (ap (λ m. gives give xs cs ++ (m ++ gives give zs es)) same ∙ sym (gives_three give xs ys zs cs ds es one two))

    heads : head_over settings None (xs ++ (vs ++ zs)) (cs ++ (fs ++ es)) ≡ head_over settings None (xs ++ (ys ++ zs)) (cs ++ (ds ++ es))
    heads =
        let so_far = head_over settings None xs cs in
        head_both settings None xs (vs ++ zs) cs (fs ++ es) one
        ∙ (head_both settings so_far vs zs fs es three
        ∙ (ap (λ h. head_over settings h zs es) (head so_far)
        ∙ sym (head_both settings None xs (ys ++ zs) cs (ds ++ es) one ∙ head_both settings so_far ys zs ds es two)))

pub one_clock_goes : OneClockGoes
one_clock_goes settings from old new h =
    let was = given settings old (h.before ++ (h.gone ++ h.after)) (h.before_classes ++ (h.gone_classes ++ h.after_classes)) h.lines_were h.classes_were in
    let is = given settings new (h.before ++ (h.kept ++ h.after)) (h.before_classes ++ (map (λ (l : List ℕ). Plain) h.kept ++ h.after_classes)) h.lines_are h.classes_are in
    let gone = gone_gives settings from h.gone h.gone_classes h.are_gone in
    let kept = kept_gives settings h.kept h.are_kept in
    let plain = map (λ (l : List ℕ). Plain) h.kept in
    record {
      others = same_else settings (entry_of settings old) (entry_of settings new) h.before h.gone h.kept h.after h.before_classes h.gone_classes plain h.after_classes h.before_size gone.size kept.size was is
          (kept.texts ∙ sym gone.texts) (kept.nodes ∙ sym gone.nodes) (kept.stamps ∙ sym gone.stamps) (λ so_far. kept.head so_far ∙ sym (gone.head so_far));
      before = gives clocks_of h.before h.before_classes;
      after = gives clocks_of h.after h.after_classes;
      clocks_were =
          was.clocks
          ∙ (gives_three clocks_of h.before h.gone h.after h.before_classes h.gone_classes h.after_classes h.before_size gone.size
          ∙ ap (λ m. gives clocks_of h.before h.before_classes ++ (m ++ gives clocks_of h.after h.after_classes)) gone.clocks);
      clocks_are =
          is.clocks
          ∙ (gives_three clocks_of h.before h.kept h.after h.before_classes plain h.after_classes h.before_size kept.size
          ∙ ap (λ m. gives clocks_of h.before h.before_classes ++ (m ++ gives clocks_of h.after h.after_classes)) kept.clocks);
    }

-- a clock's line alone
one_gives : (l : List ℕ) (clock : ClockLine) → clock_of l ≡ Some clock → gives clocks_of (l ∷ []) (Clock ∷ []) ≡ clock ∷ []
unfolding gives
one_gives l clock is = ap (λ xs. xs ++ []) (clock_here l clock is)

same_head : (settings : FileSettings) (a b : List ℕ) (so_far : Option Head) → head_over settings so_far (a ∷ []) (Clock ∷ []) ≡ head_over settings so_far (b ∷ []) (Clock ∷ [])
unfolding head_over
same_head settings a b so_far = refl

clock_texts : (a b : List ℕ) → gives text_of (a ∷ []) (Clock ∷ []) ≡ gives text_of (b ∷ []) (Clock ∷ [])
unfolding gives
clock_texts a b = refl

clock_nodes : (a b : List ℕ) → gives nodes_of (a ∷ []) (Clock ∷ []) ≡ gives nodes_of (b ∷ []) (Clock ∷ [])
unfolding gives
clock_nodes a b = refl

clock_stamps : (settings : FileSettings) (a b : List ℕ) → gives (stamps_given settings) (a ∷ []) (Clock ∷ []) ≡ gives (stamps_given settings) (b ∷ []) (Clock ∷ [])
unfolding gives
clock_stamps settings a b = refl

pub one_clock_closes : OneClockCloses
one_clock_closes settings from to old new h =
    let was = given settings old (h.before ++ h.line ∷ h.after) (h.before_classes ++ Clock ∷ h.after_classes) h.lines_were h.classes_were in
    let is = given settings new (h.before ++ h.ended ∷ h.after) (h.before_classes ++ Clock ∷ h.after_classes) h.lines_are h.classes_are in
    record {
      others = same_else settings (entry_of settings old) (entry_of settings new) h.before (h.line ∷ []) (h.ended ∷ []) h.after h.before_classes (Clock ∷ []) (Clock ∷ []) h.after_classes h.before_size refl refl was is
          (clock_texts h.ended h.line) (clock_nodes h.ended h.line) (clock_stamps settings h.ended h.line) (same_head settings h.ended h.line);
      before = gives clocks_of h.before h.before_classes;
      after = gives clocks_of h.after h.after_classes;
      clocks_were =
          was.clocks
          ∙ (gives_three clocks_of h.before (h.line ∷ []) h.after h.before_classes (Clock ∷ []) h.after_classes h.before_size refl
          ∙ ap (λ m. gives clocks_of h.before h.before_classes ++ (m ++ gives clocks_of h.after h.after_classes)) (one_gives h.line (running from) h.ran));
      clocks_are =
          is.clocks
          ∙ (gives_three clocks_of h.before (h.ended ∷ []) h.after h.before_classes (Clock ∷ []) h.after_classes h.before_size refl
          ∙ ap (λ m. gives clocks_of h.before h.before_classes ++ (m ++ gives clocks_of h.after h.after_classes)) (one_gives h.ended (closed from to) h.ends));
      first = all_over [] h.before_classes (Clock ∷ h.after_classes) 0 0 h.before refl h.before_size (ap (λ cs. first_running cs 0 0 h.before) (sym h.classes_were) ∙ h.none_before);
    }
