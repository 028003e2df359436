-- The options of a clock table, and how they are spelled.
use Rattle.std.proofs.Common.{◌≡◌, ◌≢◌, ◌∙◌, ◌⊎◌, inl, inr, ◌+◌, ◌<◌, ◌≤◌, ℕ, suc, Bool, true, false, ◌&&◌, List, [], ◌∷◌, ◌++◌, add-one, ap, append-nil, append_assoc, arith, cond, drop, flat_map, length, map, refl, subst, sym, take}
use Rattle.std.specs.Prelude.{◌==◌, if◌then◌else◌, Option, None, Some, IfSome, codes, decimal, nat_le, unwrap_or}
use Rattle.std.specs.List.{AllByRecursion, join_with_byte, list_all}
use Rattle.std.specs.Option.{option_and_then, option_map, option_to_list}
use Rattle.std.specs.Str.{IsUtf8, is_utf8}
use Rattle.std.specs.Str.Parse.{AllDigits}
use Rattle.std.proofs.lemmas.Bool.Decides.{Decides-eqb, nat_tests}
use Rattle.std.proofs.lemmas.Fmt.{digits_decimal}
use Rattle.std.proofs.lemmas.List.{drop-drop}
use Rattle.std.proofs.lemmas.List.Elements.{All-from_recursion, recursion_from_All}
use Rattle.std.proofs.lemmas.Option.{option_and_then_some}
use Rattle.std.proofs.lemmas.Slice.Eq.{bytes_eq-Decides, starts_is}
use Rattle.std.proofs.lemmas.Str.{IsUtf8-from_is_utf8, is_utf8-from_IsUtf8}
use Rattle.std.proofs.lemmas.Str.Parse.{digit_from_value}
use Rattle.std.proofs.Math.Seq.{take-append_seam}
use Rattle.org_base.specs.FileName.{is_file_name, is_name_byte}
use Rattle.org_cal.specs.Blocks.{block_of}
use Rattle.org_cal.specs.declared.steps.Step.{Step}
use Rattle.org_cal.specs.declared.steps.Step.TheVariants.{Day, Week, Whole}
use Rattle.org_clocktable.specs.Options.{add, all_from, before, begins, cut, is_word, level_of, once, options_of, with_file, with_level, with_step, word_len}
use Rattle.org_clocktable.proofs.OptionsWords.{no_options}
use Rattle.org_clocktable.specs.Request.{TableRequest, asked_by, asked_in, asked_of, expression_from, word_at}
use Rattle.org_clocktable.proofs.RequestWords.{days_in}
use Rattle.org_clocktable.proofs.RequestWords.{text_if}
use Rattle.org_clocktable.specs.Spelled.{Block, ByDay, ByWeek, Effort, File, IsOption, IsTable, Level, OptionsAreSpelled, TableOption, blocks, effort_said, efforts, expression_words, files, levels, spell, step_said, steps}
use Rattle.org_clocktable.specs.declared.options.Draft.{Draft}
use Rattle.org_clocktable.proofs.Cuts.{by_bool}
use Rattle.org_clocktable.proofs.LevelLemmas as level

-- ---- words and the text that they make

abbrev joined : List (List ℕ) → List ℕ
joined words = join_with_byte 32 words

abbrev IsApart : List ℕ → Type 0
IsApart word = AllByRecursion (λ b. b ≢ 32) word

-- what stands after a word
abbrev behind : List (List ℕ) → List ℕ
behind [] = []
behind (word ∷ words) = 32 ∷ joined (word ∷ words)

first_joined : (word : List ℕ) (words : List (List ℕ)) → joined (word ∷ words) ≡ word ++ behind words
first_joined word [] = sym (append-nil word)
first_joined word (next ∷ words) = refl

next_joined : (word : List ℕ) (words : List (List ℕ)) → drop (suc (length word)) (word ++ behind words) ≡ joined words
next_joined [] [] = refl
next_joined [] (next ∷ words) = refl
next_joined (b ∷ word) words = next_joined word words

other_byte : (b : ℕ) → b ≢ 32 → (b == 32) ≡ false
other_byte b other = grind (arith, nat_tests, other)

-- a word ends where the text does, or at a space
long : (word : List ℕ) (words : List (List ℕ)) → IsApart word → word_len (word ++ behind words) ≡ length word
unfolding word_len
long [] [] apart = refl
long [] (next ∷ words) apart = refl
long (b ∷ word) words apart = rw (other_byte b apart.0) (ap (λ n. n + 1) (long word words apart.1) ∙ add-one (length word))

cut_word : (word : List ℕ) → IsApart word → cut word ≡ word ∷ []
unfolding cut
cut_word [] apart = refl
cut_word (b ∷ word) apart = rw (other_byte b apart.0) (ap (before b) (cut_word word apart.1))

cut_space : (word rest : List ℕ) → IsApart word → cut (word ++ (32 ∷ rest)) ≡ word ∷ cut rest
unfolding cut
cut_space [] rest apart = refl
cut_space (b ∷ word) rest apart = rw (other_byte b apart.0) (ap (before b) (cut_space word rest apart.1))

-- the words of a text hold no space, and make the text
record AreWords (text : List ℕ) (words : List (List ℕ)) : Type 0 where
  word : List ℕ
  more : List (List ℕ)
  are : words ≡ word ∷ more
  apart : AllByRecursion IsApart words
  whole : text ≡ joined words

one_more : (b : ℕ) (text word : List ℕ) (more : List (List ℕ)) → b ≢ 32 → AllByRecursion IsApart (word ∷ more) → text ≡ joined (word ∷ more) → AreWords (b ∷ text) ((b ∷ word) ∷ more)
one_more b text word [] other apart whole = record { word = b ∷ word; more = []; are = refl; apart = ((other, apart.0), apart.1); whole = ap (λ t. b ∷ t) whole }
one_more b text word (next ∷ more) other apart whole = record { word = b ∷ word; more = next ∷ more; are = refl; apart = ((other, apart.0), apart.1); whole = ap (λ t. b ∷ t) whole }

space_more : (text word : List ℕ) (more : List (List ℕ)) → AllByRecursion IsApart (word ∷ more) → text ≡ joined (word ∷ more) → AreWords (32 ∷ text) ([] ∷ (word ∷ more))
space_more text word more apart whole = record { word = []; more = word ∷ more; are = refl; apart = (tt, apart); whole = ap (λ t. 32 ∷ t) whole }

words_of : (text : List ℕ) → AreWords text (cut text)
unfolding cut
words_of [] = record { word = []; more = []; are = refl; apart = (tt, tt); whole = refl }
words_of (b ∷ text) =
    let w = words_of text in
    let apart : AllByRecursion IsApart (w.word ∷ w.more) = subst (λ (ws : List (List ℕ)). AllByRecursion IsApart ws) w.are w.apart in
    let whole : text ≡ joined (w.word ∷ w.more) = w.whole ∙ ap joined w.are in
    by_bool (b == 32)
    (λ yes'. let same : b ≡ 32 = (Decides-eqb b 32).0 yes' in
    rw (yes', w.are) (subst (λ c. AreWords (c ∷ text) ([] ∷ (w.word ∷ w.more))) (sym same) (space_more text w.word w.more apart whole)))
    (λ no'. let other : b ≢ 32 = grind (arith, nat_tests, no') in
    rw (no', w.are) (one_more b text w.word w.more other apart whole))

-- ---- tests of words

begins_so : (word name : List ℕ) → begins word name ≡ true → word ≡ name ++ drop (length name) word
unfolding begins
begins_so word name yes' = (starts_is Decides-eqb word name (begins word name) refl).0 yes'

is_so : (word name : List ℕ) → is_word word name ≡ true → word ≡ name
unfolding is_word
is_so word name yes' = (bytes_eq-Decides word name).0 yes'

-- ---- what a draft holds

-- the word at a place, if there is one
abbrev named : List ℕ → Option ℕ → List (List ℕ)
named text at = option_to_list (option_map (word_at text) at)

-- a draft has what another one has, and what options say after it
record Gains (text : List ℕ) (d e : Draft) (os : List TableOption) : Type 0 where
  blocks : named text e.block_at ≡ named text d.block_at ++ flat_map blocks os
  levels : option_to_list e.level ≡ option_to_list d.level ++ flat_map levels os
  files : named text e.file_at ≡ named text d.file_at ++ flat_map files os
  steps : option_to_list e.step ≡ option_to_list d.step ++ flat_map steps os
  efforts : effort_said e.effort ≡ effort_said d.effort ++ flat_map efforts os

-- the same of one option
record Gain (text : List ℕ) (d e : Draft) (o : TableOption) : Type 0 where
  blocks : named text e.block_at ≡ named text d.block_at ++ blocks o
  levels : option_to_list e.level ≡ option_to_list d.level ++ levels o
  files : named text e.file_at ≡ named text d.file_at ++ files o
  steps : option_to_list e.step ≡ option_to_list d.step ++ steps o
  efforts : effort_said e.effort ≡ effort_said d.effort ++ efforts o
  expression : e.match_at ≡ d.match_at

gains_none : (text : List ℕ) (d : Draft) → Gains text d d []
gains_none text d = record {
  blocks = sym (append-nil (named text d.block_at));
  levels = sym (append-nil (option_to_list d.level));
  files = sym (append-nil (named text d.file_at));
  steps = sym (append-nil (option_to_list d.step));
  efforts = sym (append-nil (effort_said d.effort));
}

longer : {A : Type 0} (a b c x y : List A) → b ≡ a ++ x → c ≡ b ++ y → c ≡ a ++ (x ++ y)
longer a b c x y e f = f ∙ ap (λ t. t ++ y) e ∙ append_assoc a x y

gains_more : (text : List ℕ) (d e f : Draft) (o : TableOption) (os : List TableOption) → Gain text d e o → Gains text e f os → Gains text d f (o ∷ os)
gains_more text d e f o os one more = record {
  blocks = longer (named text d.block_at) (named text e.block_at) (named text f.block_at) (blocks o) (flat_map blocks os) one.blocks more.blocks;
  levels = longer (option_to_list d.level) (option_to_list e.level) (option_to_list f.level) (levels o) (flat_map levels os) one.levels more.levels;
  files = longer (named text d.file_at) (named text e.file_at) (named text f.file_at) (files o) (flat_map files os) one.files more.files;
  steps = longer (option_to_list d.step) (option_to_list e.step) (option_to_list f.step) (steps o) (flat_map steps os) one.steps more.steps;
  efforts = longer (effort_said d.effort) (effort_said e.effort) (effort_said f.effort) (efforts o) (flat_map efforts os) one.efforts more.efforts;
}

module _ (text : List ℕ) (d : Draft) where
  same : {A : Type 0} (xs : List A) → xs ≡ xs ++ []
  same xs = sym (append-nil xs)

  gain_block : (at : ℕ) (name : List ℕ) → d.block_at ≡ None → word_at text at ≡ name → Gain text d (record d { block_at = Some at }) (Block name)
  gain_block at name none is = record {
    blocks = ap (λ w. w ∷ []) is ∙ ap (λ o. named text o ++ (name ∷ [])) (sym none);
    levels = same (option_to_list d.level);
    files = same (named text d.file_at);
    steps = same (option_to_list d.step);
    efforts = same (effort_said d.effort);
    expression = refl;
  }

  gain_level : (n : ℕ) → d.level ≡ None → Gain text d (record d { level = Some n }) (Level n)
  gain_level n none = record {
    blocks = same (named text d.block_at);
    levels = ap (λ o. option_to_list o ++ (n ∷ [])) (sym none);
    files = same (named text d.file_at);
    steps = same (option_to_list d.step);
    efforts = same (effort_said d.effort);
    expression = refl;
  }

  gain_file : (at : ℕ) (name : List ℕ) → d.file_at ≡ None → word_at text at ≡ name → Gain text d (record d { file_at = Some at }) (File name)
  gain_file at name none is = record {
    blocks = same (named text d.block_at);
    levels = same (option_to_list d.level);
    files = ap (λ w. w ∷ []) is ∙ ap (λ o. named text o ++ (name ∷ [])) (sym none);
    steps = same (option_to_list d.step);
    efforts = same (effort_said d.effort);
    expression = refl;
  }

  gain_step : (step : Step) (o : TableOption) → blocks o ≡ [] → levels o ≡ [] → files o ≡ [] → efforts o ≡ [] → steps o ≡ step ∷ [] → d.step ≡ None → Gain text d (record d { step = Some step }) o
  gain_step step o b l f e s none = record {
    blocks = same (named text d.block_at) ∙ ap (λ t. named text d.block_at ++ t) (sym b);
    levels = same (option_to_list d.level) ∙ ap (λ t. option_to_list d.level ++ t) (sym l);
    files = same (named text d.file_at) ∙ ap (λ t. named text d.file_at ++ t) (sym f);
    steps = sym s ∙ ap (λ x. option_to_list x ++ steps o) (sym none);
    efforts = same (effort_said d.effort) ∙ ap (λ t. effort_said d.effort ++ t) (sym e);
    expression = refl;
  }

  gain_effort : d.effort ≡ false → Gain text d (record d { effort = true }) Effort
  gain_effort none = record {
    blocks = same (named text d.block_at);
    levels = same (option_to_list d.level);
    files = same (named text d.file_at);
    steps = same (option_to_list d.step);
    efforts = ap (λ t. effort_said t ++ (Effort ∷ [])) (sym none);
    expression = refl;
  }

-- ---- one word

-- the word at a place after its name
value_at : (text : List ℕ) (at : ℕ) (name value : List ℕ) (words : List (List ℕ)) → drop at text ≡ (name ++ value) ++ behind words → IsApart value → word_at text (at + length name) ≡ value
value_at text at name value words is apart =
    let there : drop (at + length name) text ≡ value ++ behind words =
    sym (drop-drop (length name) at text) ∙ ap (drop (length name)) (is ∙ append_assoc name value (behind words)) ∙ drop_seam name (value ++ behind words) in
    ap (λ t. take (word_len t) t) there ∙ ap (λ n. take n (value ++ behind words)) (long value words apart) ∙ take-append_seam value (behind words)
  where
    drop_seam : (a b : List ℕ) → drop (length a) (a ++ b) ≡ b
    drop_seam [] b = refl
    drop_seam (x ∷ a) b = drop_seam a b

apart_behind : (name value : List ℕ) → IsApart (name ++ value) → IsApart value
apart_behind [] value apart = apart
apart_behind (b ∷ name) value apart = apart_behind name value apart.1

-- what a word leads to
record IsAdded (text : List ℕ) (word : List ℕ) (d e : Draft) : Type 0 where
  option : TableOption
  is : IsOption option
  spelled : word ≡ spell option
  gain : Gain text d e option

chosen : {A : Type 0} (b : Bool) (x y z : Option A) → cond b x y ≡ z → ((b ≡ true) × (x ≡ z)) ⊎ ((b ≡ false) × (y ≡ z))
chosen true x y z e = inl (refl, e)
chosen false x y z e = inr (refl, e)

once_so : {A : Type 0} (o : Option A) (next : Option Draft) (e : Draft) → once o next ≡ Some e → (o ≡ None) × (next ≡ Some e)
once_so None next e h = (refl, h)
once_so (Some x) next e h = absurd cc

Some_so : {A : Type 0} (a b : A) → Some a ≡ Some b → a ≡ b
Some_so a b e = ap (λ o. elim o [ Some x ↦ x | None ↦ a ]) e

-- a draft that is what it would be
module _ (text : List ℕ) (at : ℕ) (word : List ℕ) (words : List (List ℕ)) (d e : Draft) (there : drop at text ≡ word ++ behind words) (apart : IsApart word) where
  placed : (name : List ℕ) → word ≡ name ++ drop (length name) word → word_at text (at + length name) ≡ drop (length name) word
  placed name is = value_at text at name (drop (length name) word) words (there ∙ ap (λ w. w ++ behind words) is) (apart_behind name (drop (length name) word) (subst IsApart is apart))

  block_added : word ≡ codes "block=" ++ drop 6 word → once d.block_at (Some (record d { block_at = Some (at + 6) })) ≡ Some e → IsAdded text word d e
  block_added is h =
      let o = once_so d.block_at (Some (record d { block_at = Some (at + 6) })) e h in
      record {
        option = Block (drop 6 word);
        is = All-from_recursion (λ b. b ≢ 32) (drop 6 word) (apart_behind (codes "block=") (drop 6 word) (subst IsApart is apart));
        spelled = is;
        gain = subst (λ (f : Draft). Gain text d f (Block (drop 6 word))) (Some_so (record d { block_at = Some (at + 6) }) e o.1) (gain_block text d (at + 6) (drop 6 word) o.0 (placed (codes "block=") is));
      }

  level_added : word ≡ codes "maxlevel=" ++ drop 9 word → once d.level (with_level d (level_of (drop 9 word))) ≡ Some e → IsAdded text word d e
  level_added is h =
      let o = once_so d.level (with_level d (level_of (drop 9 word))) e h in
      elim (level_of (drop 9 word)) as (λ l. level_of (drop 9 word) ≡ l → with_level d l ≡ Some e → IsAdded text word d e) [
        | None ↦ λ l none. absurd cc
        | Some n ↦ λ l found.
            let says = (level.levels (drop 9 word) n).0 l in
            record {
              option = Level n;
              is = (says.1, says.2);
              spelled = is ∙ ap (λ t. codes "maxlevel=" ++ t) says.0;
              gain = subst (λ (f : Draft). Gain text d f (Level n)) (Some_so (record d { level = Some n }) e found) (gain_level text d n o.0);
            }
      ] refl o.1

  file_added : word ≡ codes "file=" ++ drop 5 word → with_file at (drop 5 word) d ≡ Some e → IsAdded text word d e
  file_added is h =
      let o = once_so d.file_at (if is_file_name (drop 5 word) then Some (record d { file_at = Some (at + 5) }) else None) e h in
      elim (chosen (is_file_name (drop 5 word)) (Some (record d { file_at = Some (at + 5) })) None (Some e) o.1) [
        | inl c ↦ record {
          option = File (drop 5 word);
          is = c.0;
          spelled = is;
          gain = subst (λ (f : Draft). Gain text d f (File (drop 5 word))) (Some_so (record d { file_at = Some (at + 5) }) e c.1) (gain_file text d (at + 5) (drop 5 word) o.0 (placed (codes "file=") is));
        }
        | inr c ↦ let none : None ≡ Some e = c.1 in absurd cc
      ]

  day_added : word ≡ codes "step=day" → with_step d Day ≡ Some e → IsAdded text word d e
  day_added is h =
      let o = once_so d.step (Some (record d { step = Some Day })) e h in
      record { option = ByDay; is = tt; spelled = is; gain = subst (λ (f : Draft). Gain text d f ByDay) (Some_so (record d { step = Some Day }) e o.1) (gain_step text d Day ByDay refl refl refl refl refl o.0) }

  week_added : word ≡ codes "step=week" → with_step d Week ≡ Some e → IsAdded text word d e
  week_added is h =
      let o = once_so d.step (Some (record d { step = Some Week })) e h in
      record { option = ByWeek; is = tt; spelled = is; gain = subst (λ (f : Draft). Gain text d f ByWeek) (Some_so (record d { step = Some Week }) e o.1) (gain_step text d Week ByWeek refl refl refl refl refl o.0) }

  effort_added : word ≡ codes "effort" → (if d.effort then None else Some (record d { effort = true })) ≡ Some e → IsAdded text word d e
  effort_added is h = elim (chosen d.effort None (Some (record d { effort = true })) (Some e) h) [
    | inl c ↦ let none : None ≡ Some e = c.1 in absurd cc
    | inr c ↦ record { option = Effort; is = tt; spelled = is; gain = subst (λ (f : Draft). Gain text d f Effort) (Some_so (record d { effort = true }) e c.1) (gain_effort text d c.0) }
  ]

  word_added : add at word d ≡ Some e → IsAdded text word d e
  unfolding add
  word_added h = elim (chosen (begins word (codes "block=")) _ _ (Some e) h) [
    | inl c ↦ block_added (begins_so word (codes "block=") c.0) c.1
    | inr c ↦ elim (chosen (begins word (codes "maxlevel=")) _ _ (Some e) c.1) [
      | inl c ↦ level_added (begins_so word (codes "maxlevel=") c.0) c.1
      | inr c ↦ elim (chosen (begins word (codes "file=")) _ _ (Some e) c.1) [
        | inl c ↦ file_added (begins_so word (codes "file=") c.0) c.1
        | inr c ↦ elim (chosen (is_word word (codes "step=day")) _ _ (Some e) c.1) [
          | inl c ↦ day_added (is_so word (codes "step=day") c.0) c.1
          | inr c ↦ elim (chosen (is_word word (codes "step=week")) _ _ (Some e) c.1) [
            | inl c ↦ week_added (is_so word (codes "step=week") c.0) c.1
            | inr c ↦ elim (chosen (is_word word (codes "effort")) _ _ (Some e) c.1) [
              | inl c ↦ effort_added (is_so word (codes "effort") c.0) c.1
              | inr c ↦ let none : None ≡ Some e = c.1 in absurd cc
            ]
          ]
        ]
      ]
    ]
  ]

-- ---- all words

-- what words lead to: options, and the expression after them
record AreAdded (text : List ℕ) (words : List (List ℕ)) (d e : Draft) : Type 0 where
  options : List TableOption
  expression : Option (List ℕ)
  are : AllByRecursion IsOption options
  spelled : behind words ≡ behind (map spell options ++ expression_words expression)
  gains : Gains text d e options
  from : option_map (λ at. drop at text) e.match_at ≡ expression

next_at : (text : List ℕ) (at : ℕ) (word : List ℕ) (words : List (List ℕ)) → drop at text ≡ joined (word ∷ words) → drop (at + length word + 1) text ≡ joined words
next_at text at word words there =
    let step : at + length word + 1 ≡ at + suc (length word) = omega arith in
    ap (λ n. drop n text) step ∙ sym (drop-drop (suc (length word)) at text) ∙ ap (drop (suc (length word))) (there ∙ first_joined word words) ∙ next_joined word words

match_added : (text : List ℕ) (at : ℕ) (word : List ℕ) (words : List (List ℕ)) (d e : Draft) → drop at text ≡ joined (word ∷ words) → word ≡ codes "match=" ++ drop 6 word →
    Some (record d { match_at = Some (at + 6) }) ≡ Some e → AreAdded text (word ∷ words) d e
match_added text at word words d e there is h =
    let rest : List ℕ = drop 6 word ++ behind words in
    let whole : joined (word ∷ words) ≡ codes "match=" ++ rest = first_joined word words ∙ ap (λ w. w ++ behind words) is in
    let behind_name : drop (at + 6) text ≡ rest = sym (drop-drop 6 at text) ∙ ap (drop 6) (there ∙ whole) in
    let f : Draft = record d { match_at = Some (at + 6) } in
    subst (λ (g : Draft). AreAdded text (word ∷ words) d g) (Some_so f e h) (record {
      options = [];
      expression = Some rest;
      are = tt;
      spelled = ap (λ t. 32 ∷ t) whole;
      gains = record {
        blocks = sym (append-nil (named text d.block_at));
        levels = sym (append-nil (option_to_list d.level));
        files = sym (append-nil (named text d.file_at));
        steps = sym (append-nil (option_to_list d.step));
        efforts = sym (append-nil (effort_said d.effort));
      };
      from = ap Some behind_name;
    })

option_more : (text : List ℕ) (word : List ℕ) (words : List (List ℕ)) (d e f : Draft) → IsAdded text word d e → AreAdded text words e f → AreAdded text (word ∷ words) d f
option_more text word words d e f one more =
    let said : List (List ℕ) = map spell more.options ++ expression_words more.expression in
    record {
      options = one.option ∷ more.options;
      expression = more.expression;
      are = (one.is, more.are);
      spelled = ap (λ t. 32 ∷ t) (first_joined word words ∙ ap (λ t. word ++ t) more.spelled ∙ ap (λ w. w ++ behind said) one.spelled ∙ sym (first_joined (spell one.option) said));
      gains = gains_more text d e f one.option more.options one.gain more.gains;
      from = more.from;
    }

words_added : (text : List ℕ) (words : List (List ℕ)) (at : ℕ) (d e : Draft) → drop at text ≡ joined words → AllByRecursion IsApart words → d.match_at ≡ None → all_from at words d ≡ Some e →
    AreAdded text words d e
unfolding all_from
words_added text [] at d e there apart none h =
    subst (λ (f : Draft). AreAdded text [] d f) (Some_so d e h)
    (record { options = []; expression = None; are = tt; spelled = refl; gains = gains_none text d; from = ap (λ m. option_map (λ at. drop at text) m) none })
words_added text (word ∷ words) at d e there apart none h =
    elim (chosen (begins word (codes "match=")) (Some (record d { match_at = Some (at + 6) })) (option_and_then (all_from (at + length word + 1) words) (add at word d)) (Some e) h) [
      | inl c ↦ match_added text at word words d e there (begins_so word (codes "match=") c.0) c.1
      | inr c ↦ option_and_then_some (all_from (at + length word + 1) words) (add at word d) e c.1 (λ f one rest.
          let added = word_added text at word words d f (there ∙ first_joined word words) apart.0 one in
          option_more text word words d f e added (words_added text words (at + length word + 1) f e (next_at text at word words there) apart.1 (added.gain.expression ∙ none) rest))
    ]

-- ---- and back

digits_apart : (ds : List ℕ) → AllDigits 10 ds → IsApart ds
digits_apart [] digits = tt
digits_apart (b ∷ ds) digits =
    let is = digit_from_value b digits.0 in
    ((λ e. omega (arith, is.0, e)), digits_apart ds digits.1)

name_apart : (name : List ℕ) → list_all is_name_byte name ≡ true → IsApart name
name_apart [] e = tt
name_apart (b ∷ name) e = by_bool (is_name_byte b)
    (λ yes'. ((λ same. let more : 33 ≤ b = grind (arith, nat_tests, yes') in omega (arith, same, more)), name_apart name (rw yes' at e)))
    (λ no'. let none : false ≡ true = rw no' at e in absurd cc)

file_apart : (name : List ℕ) → is_file_name name ≡ true → IsApart name
file_apart name e = name_apart name (last (nat_le 1 (length name) && nat_le (length name) 255) (list_all is_name_byte name) e) where
  last : (a b : Bool) → (a && b) ≡ true → b ≡ true
  last true b h = h
  last false b h = absurd cc

is_apart : (o : TableOption) → IsOption o → IsApart (spell o)
is_apart (Block name) is = (λ e. omega (arith, e), (λ e. omega (arith, e), (λ e. omega (arith, e), (λ e. omega (arith, e), (λ e. omega (arith, e), (λ e. omega (arith, e), recursion_from_All (λ b. b ≢ 32) name is))))))
is_apart (Level n) is = (λ e. omega (arith, e), (λ e. omega (arith, e), (λ e. omega (arith, e), (λ e. omega (arith, e), (λ e. omega (arith, e), (λ e. omega (arith, e), (λ e. omega (arith, e), (λ e. omega (arith, e), (λ e. omega (arith, e), digits_apart (decimal n) (digits_decimal level.numerals n (omega (arith, is.1))))))))))))
is_apart (File name) is = (λ e. omega (arith, e), (λ e. omega (arith, e), (λ e. omega (arith, e), (λ e. omega (arith, e), (λ e. omega (arith, e), file_apart name is)))))
is_apart ByDay is = (λ e. omega (arith, e), (λ e. omega (arith, e), (λ e. omega (arith, e), (λ e. omega (arith, e), (λ e. omega (arith, e), (λ e. omega (arith, e), (λ e. omega (arith, e), (λ e. omega (arith, e), tt))))))))
is_apart ByWeek is = (λ e. omega (arith, e), (λ e. omega (arith, e), (λ e. omega (arith, e), (λ e. omega (arith, e), (λ e. omega (arith, e), (λ e. omega (arith, e), (λ e. omega (arith, e), (λ e. omega (arith, e), (λ e. omega (arith, e), tt)))))))))
is_apart Effort is = (λ e. omega (arith, e), (λ e. omega (arith, e), (λ e. omega (arith, e), (λ e. omega (arith, e), (λ e. omega (arith, e), (λ e. omega (arith, e), tt))))))

-- of each kind there is room for one
record HasRoom (text : List ℕ) (d : Draft) (os : List TableOption) : Type 0 where
  blocks : length (named text d.block_at ++ flat_map blocks os) ≤ 1
  levels : length (option_to_list d.level ++ flat_map levels os) ≤ 1
  files : length (named text d.file_at ++ flat_map files os) ≤ 1
  steps : length (option_to_list d.step ++ flat_map steps os) ≤ 1
  efforts : length (effort_said d.effort ++ flat_map efforts os) ≤ 1

less_room : {A : Type 0} (a b x y : List A) → b ≡ a ++ x → length (a ++ (x ++ y)) ≤ 1 → length (b ++ y) ≤ 1
less_room a b x y e le = subst (λ t. length t ≤ 1) (sym (ap (λ t. t ++ y) e ∙ append_assoc a x y)) le

room_left : (text : List ℕ) (d e : Draft) (o : TableOption) (os : List TableOption) → Gain text d e o → HasRoom text d (o ∷ os) → HasRoom text e os
room_left text d e o os gain room = record {
  blocks = less_room (named text d.block_at) (named text e.block_at) (blocks o) (flat_map blocks os) gain.blocks room.blocks;
  levels = less_room (option_to_list d.level) (option_to_list e.level) (levels o) (flat_map levels os) gain.levels room.levels;
  files = less_room (named text d.file_at) (named text e.file_at) (files o) (flat_map files os) gain.files room.files;
  steps = less_room (option_to_list d.step) (option_to_list e.step) (steps o) (flat_map steps os) gain.steps room.steps;
  efforts = less_room (effort_said d.effort) (effort_said e.effort) (efforts o) (flat_map efforts os) gain.efforts room.efforts;
}

none_named : (text : List ℕ) (o : Option ℕ) (x : List ℕ) (ys : List (List ℕ)) → length (named text o ++ (x ∷ ys)) ≤ 1 → o ≡ None
none_named text None x ys le = refl
none_named text (Some at) x ys le = absurd (omega (arith, le))

none_there : {A : Type 0} (o : Option A) (x : A) (ys : List A) → length (option_to_list o ++ (x ∷ ys)) ≤ 1 → o ≡ None
none_there None x ys le = refl
none_there (Some y) x ys le = absurd (omega (arith, le))

none_said : (b : Bool) (x : TableOption) (ys : List TableOption) → length (effort_said b ++ (x ∷ ys)) ≤ 1 → b ≡ false
none_said false x ys le = refl
none_said true x ys le = absurd (omega (arith, le))

-- a spelled option is read
record Reads (text : List ℕ) (at : ℕ) (d : Draft) (o : TableOption) : Type 0 where
  draft : Draft
  is : add at (spell o) d ≡ Some draft
  gain : Gain text d draft o

module _ (text : List ℕ) (at : ℕ) (words : List (List ℕ)) (d : Draft) where
  option_read : (o : TableOption) (os : List TableOption) → IsOption o → HasRoom text d (o ∷ os) → drop at text ≡ spell o ++ behind words → Reads text at d o
  unfolding add begins is_word
  option_read (Block name) os is room there =
      let none = none_named text d.block_at name (flat_map blocks os) room.blocks in
      record {
        draft = record d { block_at = Some (at + 6) };
        is = ap (λ o. once o (Some (record d { block_at = Some (at + 6) }))) none;
        gain = gain_block text d (at + 6) name none (value_at text at (codes "block=") name words there (recursion_from_All (λ b. b ≢ 32) name is));
      }
  option_read (Level n) os is room there =
      let none = none_there d.level n (flat_map levels os) room.levels in
      let read : level_of (decimal n) ≡ Some n = (level.levels (decimal n) n).1 (refl, is.0, is.1) in
      record {
        draft = record d { level = Some n };
        is = ap (λ o. once o (with_level d (level_of (decimal n)))) none ∙ ap (with_level d) read;
        gain = gain_level text d n none;
      }
  option_read (File name) os is room there =
      let none = none_named text d.file_at name (flat_map files os) room.files in
      let f : Option Draft = Some (record d { file_at = Some (at + 5) }) in
      record {
        draft = record d { file_at = Some (at + 5) };
        is = ap (λ o. once o (if is_file_name name then f else None)) none ∙ ap (λ b. if b then f else None) is;
        gain = gain_file text d (at + 5) name none (value_at text at (codes "file=") name words there (file_apart name is));
      }
  option_read ByDay os is room there =
      let none = none_there d.step Day (flat_map steps os) room.steps in
      record { draft = record d { step = Some Day }; is = ap (λ o. once o (Some (record d { step = Some Day }))) none; gain = gain_step text d Day ByDay refl refl refl refl refl none }
  option_read ByWeek os is room there =
      let none = none_there d.step Week (flat_map steps os) room.steps in
      record { draft = record d { step = Some Week }; is = ap (λ o. once o (Some (record d { step = Some Week }))) none; gain = gain_step text d Week ByWeek refl refl refl refl refl none }
  option_read Effort os is room there =
      let none = none_said d.effort Effort (flat_map efforts os) room.efforts in
      record { draft = record d { effort = true }; is = ap (λ b. if b then None else Some (record d { effort = true })) none; gain = gain_effort text d none }

-- none of them takes the rest of the text
no_match : (o : TableOption) → begins (spell o) (codes "match=") ≡ false
unfolding begins
no_match (Block name) = refl
no_match (Level n) = refl
no_match (File name) = refl
no_match ByDay = refl
no_match ByWeek = refl
no_match Effort = refl

-- the words after `match=` begin with it
record BeginsSo (text : List ℕ) : Type 0 where
  word : List ℕ
  words : List (List ℕ)
  is : cut (codes "match=" ++ text) ≡ (codes "match=" ++ word) ∷ words

put_before : (ws : List (List ℕ)) → (word : List ℕ) × (words : List (List ℕ)) × (before 109 (before 97 (before 116 (before 99 (before 104 (before 61 ws))))) ≡ (codes "match=" ++ word) ∷ words)
put_before [] = ([], [], refl)
put_before (w ∷ ws) = (w, ws, refl)

match_begins : (text : List ℕ) → BeginsSo text
unfolding cut
match_begins text =
    let b = put_before (cut text) in
    record { word = b.0; words = b.1; is = b.2 }

begins_match : (word : List ℕ) → begins (codes "match=" ++ word) (codes "match=") ≡ true
unfolding begins
begins_match word = refl

-- the words of a spelled text
abbrev last_words : Option (List ℕ) → List (List ℕ)
last_words None = []
last_words (Some expression) = cut (codes "match=" ++ expression)

abbrev said : List TableOption → Option (List ℕ) → List (List ℕ)
said os expression = map spell os ++ expression_words expression

cut_said : (os : List TableOption) (expression : Option (List ℕ)) → AllByRecursion IsOption os → 0 < length (said os expression) → cut (joined (said os expression)) ≡ map spell os ++ last_words expression
cut_said [] None are some = absurd (omega (arith, some))
cut_said [] (Some expression) are some = refl
cut_said (o ∷ []) None are some = cut_word (spell o) (is_apart o are.0)
cut_said (o ∷ []) (Some expression) are some = cut_space (spell o) (codes "match=" ++ expression) (is_apart o are.0)
cut_said (o ∷ (p ∷ os)) expression are some =
    cut_space (spell o) (joined (said (p ∷ os) expression)) (is_apart o are.0) ∙ ap (λ ws. spell o ∷ ws) (cut_said (p ∷ os) expression are.1 (omega arith))

-- what is read of it
record AreRead (text : List ℕ) (at : ℕ) (words : List (List ℕ)) (d : Draft) (os : List TableOption) (expression : Option (List ℕ)) : Type 0 where
  draft : Draft
  is : all_from at words d ≡ Some draft
  gains : Gains text d draft os
  from : option_map (λ at. drop at text) draft.match_at ≡ expression

expression_read : (text : List ℕ) (at : ℕ) (expression : List ℕ) (d : Draft) → drop at text ≡ codes "match=" ++ expression → AreRead text at (cut (codes "match=" ++ expression)) d [] (Some expression)
unfolding all_from
expression_read text at expression d there =
    let b = match_begins expression in
    let e : Draft = record d { match_at = Some (at + 6) } in
    record {
      draft = e;
      is = ap (λ ws. all_from at ws d) b.is ∙ ap (λ t. cond t (Some e) (option_and_then (all_from (at + length (codes "match=" ++ b.word) + 1) b.words) (add at (codes "match=" ++ b.word) d))) (begins_match b.word);
      gains = record {
        blocks = sym (append-nil (named text d.block_at));
        levels = sym (append-nil (option_to_list d.level));
        files = sym (append-nil (named text d.file_at));
        steps = sym (append-nil (option_to_list d.step));
        efforts = sym (append-nil (effort_said d.effort));
      };
      from = ap Some (sym (drop-drop 6 at text) ∙ ap (drop 6) there);
    }

options_read : (text : List ℕ) (os : List TableOption) (expression : Option (List ℕ)) (at : ℕ) (d : Draft) → AllByRecursion IsOption os → HasRoom text d os → d.match_at ≡ None →
    drop at text ≡ joined (said os expression) → AreRead text at (map spell os ++ last_words expression) d os expression
unfolding all_from
options_read text [] None at d are room none there = record { draft = d; is = refl; gains = gains_none text d; from = ap (λ m. option_map (λ at. drop at text) m) none }
options_read text [] (Some expression) at d are room none there = expression_read text at expression d there
options_read text (o ∷ os) expression at d are room none there =
    let words : List (List ℕ) = map spell os ++ last_words expression in
    let one = option_read text at (said os expression) d o os are.0 room (there ∙ first_joined (spell o) (said os expression)) in
    let more = options_read text os expression (at + length (spell o) + 1) one.draft are.1 (room_left text d one.draft o os one.gain room) (one.gain.expression ∙ none)
    (next_at text at (spell o) (said os expression) there) in
    record {
      draft = more.draft;
      is = ap (λ t. cond t (Some (record d { match_at = Some (at + 6) })) (option_and_then (all_from (at + length (spell o) + 1) words) (add at (spell o) d))) (no_match o)
          ∙ ap (option_and_then (all_from (at + length (spell o) + 1) words)) one.is ∙ more.is;
      gains = gains_more text d one.draft more.draft o os one.gain more.gains;
      from = more.from;
    }

-- ---- what a text asks for

-- a step that is said is one of days or of weeks
no_whole : (os : List TableOption) (rest : List Step) → flat_map steps os ≡ Whole ∷ rest → ⊥
no_whole [] rest e = absurd cc
no_whole (Block name ∷ os) rest e = no_whole os rest e
no_whole (Level n ∷ os) rest e = no_whole os rest e
no_whole (File name ∷ os) rest e = no_whole os rest e
no_whole (ByDay ∷ os) rest e = absurd cc
no_whole (ByWeek ∷ os) rest e = absurd cc
no_whole (Effort ∷ os) rest e = no_whole os rest e

step_so : (os : List TableOption) (s : Option Step) → option_to_list s ≡ flat_map steps os → flat_map steps os ≡ step_said (unwrap_or s Whole)
step_so os None e = sym e
step_so os (Some Whole) e = absurd (no_whole os [] (sym e))
step_so os (Some Day) e = sym e
step_so os (Some Week) e = sym e

-- and back
unsaid_step : (s : Option Step) (step : Step) → option_to_list s ≡ step_said step → unwrap_or s Whole ≡ step
unsaid_step None Whole e = refl
unsaid_step None Day e = absurd cc
unsaid_step None Week e = absurd cc
unsaid_step (Some s) Whole e = absurd cc
unsaid_step (Some s) Day e = cc
unsaid_step (Some s) Week e = cc

unsaid_effort : (a b : Bool) → effort_said a ≡ effort_said b → a ≡ b
unsaid_effort true true e = refl
unsaid_effort true false e = absurd cc
unsaid_effort false true e = absurd cc
unsaid_effort false false e = refl

one_there : {A : Type 0} (o : Option A) (x : A) → option_to_list o ≡ x ∷ [] → o ≡ Some x
one_there None x e = absurd cc
one_there (Some y) x e = cc

same_option : {A : Type 0} (o p : Option A) → option_to_list o ≡ option_to_list p → o ≡ p
same_option None None e = refl
same_option None (Some y) e = absurd cc
same_option (Some x) None e = absurd cc
same_option (Some x) (Some y) e = cc

-- the expression is text
text_so : (bytes : Option (List ℕ)) (found : Option (List ℕ)) → text_if bytes ≡ Some found → (found ≡ bytes) × IfSome found IsUtf8
text_so None found e = let is : None ≡ found = cc in (sym is, subst (λ o. IfSome o IsUtf8) is tt)
text_so (Some bytes) found e = elim (is_utf8 bytes) as (λ t. is_utf8 bytes ≡ t → option_map Some (if t then Some bytes else None) ≡ Some found → (found ≡ Some bytes) × IfSome found IsUtf8) [
  | true ↦ λ yes' e. let is : Some bytes ≡ found = cc in (sym is, subst (λ o. IfSome o IsUtf8) is (IsUtf8-from_is_utf8 bytes yes'))
  | false ↦ λ no' e. absurd cc
] refl e

text_back : (bytes : Option (List ℕ)) → IfSome bytes IsUtf8 → text_if bytes ≡ Some bytes
text_back None is = refl
text_back (Some bytes) is = rw (is_utf8-from_IsUtf8 bytes is) refl

-- a text is the words that are said where they stand after it
whole_text : (text : List ℕ) (words said : List (List ℕ)) → 0 < length words → text ≡ joined words → behind words ≡ behind said → text ≡ joined said
whole_text text [] said some is e = absurd (omega (arith, some))
whole_text text (w ∷ ws) [] some is e = absurd cc
whole_text text (w ∷ ws) (v ∷ vs) some is e = is ∙ ap (drop 1) e

module _ (text : List ℕ) (today : ℕ) (asked : TableRequest (List ℕ)) where
  asked_so : (e : Draft) (expression : Option (List ℕ)) (days : ℕ × ℕ) (at : ℕ) → all_from 0 (cut text) no_options ≡ Some e → text_if (option_map (λ at. drop at text) e.match_at) ≡ Some expression →
      e.block_at ≡ Some at → block_of (word_at text at) today ≡ Some days → option_map (asked_in text e expression days) e.level ≡ Some asked → IsTable text today asked
  asked_so e expression days at read utf8 block within is =
      let w = words_of text in
      let all = words_added text (cut text) 0 no_options e w.whole w.apart refl read in
      let x = text_so (option_map (λ at. drop at text) e.match_at) expression utf8 in
      elim e.level as (λ l. e.level ≡ l → option_map (asked_in text e expression days) l ≡ Some asked → IsTable text today asked) [
        | None ↦ λ l none. absurd cc
        | Some most ↦ λ l found.
            let same : asked_in text e expression days most ≡ asked = Some_so (asked_in text e expression days most) asked found in
            subst (λ (a : TableRequest (List ℕ)). IsTable text today a) same (record {
              options = all.options;
              block = word_at text at;
              are = All-from_recursion IsOption all.options all.are;
              utf8 = x.1;
              spelled = subst (λ o. text ≡ joined (said all.options o)) (sym (x.0 ∙ all.from)) (whole_text text (cut text) (said all.options all.expression) (subst (λ (ws : List (List ℕ)). 0 < length ws) (sym w.are) (omega arith)) w.whole all.spelled);
              one_block = sym all.gains.blocks ∙ ap (named text) block;
              days = within;
              one_level = sym all.gains.levels ∙ ap option_to_list l;
              file = sym all.gains.files;
              step = step_so all.options e.step all.gains.steps;
              effort = sym all.gains.efforts;
            })
      ] refl is

  to_table : asked_of text today ≡ Some asked → IsTable text today asked
  to_table h = option_and_then_some (asked_by text today) (options_of text) asked h (λ e read by.
      option_and_then_some (λ expression. option_and_then (λ days. option_map (asked_in text e expression days) e.level) (days_in text today e)) (expression_from text e.match_at) asked by (λ expression utf8 by.
      option_and_then_some (λ days. option_map (asked_in text e expression days) e.level) (days_in text today e) asked by (λ days within is.
      option_and_then_some (λ at. block_of (word_at text at) today) e.block_at days within (λ at block there.
      asked_so e expression days at read utf8 block there is))))

  from_table : IsTable text today asked → asked_of text today ≡ Some asked
  from_table t =
      let are = recursion_from_All IsOption t.options t.are in
      let room : HasRoom text no_options t.options = record {
        blocks = subst (λ xs. length xs ≤ 1) (sym t.one_block) (omega arith);
        levels = subst (λ xs. length xs ≤ 1) (sym t.one_level) (omega arith);
        files = subst (λ xs. length xs ≤ 1) (sym t.file) (one_at_most asked.file);
        steps = subst (λ xs. length xs ≤ 1) (sym t.step) (one_step asked.step);
        efforts = subst (λ xs. length xs ≤ 1) (sym t.effort) (one_effort asked.with_effort);
      } in
      let r = options_read text t.options asked.expression 0 no_options are room refl t.spelled in
      let read : options_of text ≡ Some r.draft = ap (λ ws. all_from 0 ws no_options) (ap cut t.spelled ∙ cut_said t.options asked.expression are (some_options t.options asked.expression t.one_block)) ∙ r.is in
      let expression : expression_from text r.draft.match_at ≡ Some asked.expression = ap text_if r.from ∙ text_back asked.expression t.utf8 in
      let days : days_in text today r.draft ≡ Some asked.days = block_there r.draft.block_at t.block (r.gains.blocks ∙ t.one_block) ∙ t.days in
      let level : r.draft.level ≡ Some asked.most = one_there r.draft.level asked.most (r.gains.levels ∙ t.one_level) in
      let file : option_map (word_at text) r.draft.file_at ≡ asked.file = same_option (option_map (word_at text) r.draft.file_at) asked.file (r.gains.files ∙ t.file) in
      let step : unwrap_or r.draft.step Whole ≡ asked.step = unsaid_step r.draft.step asked.step (r.gains.steps ∙ t.step) in
      let effort : r.draft.effort ≡ asked.with_effort = unsaid_effort r.draft.effort asked.with_effort (r.gains.efforts ∙ t.effort) in
      ap (option_and_then (asked_by text today)) read
      ∙ ap (option_and_then (λ expression. option_and_then (λ days. option_map (asked_in text r.draft expression days) r.draft.level) (days_in text today r.draft))) expression
      ∙ ap (option_and_then (λ days. option_map (asked_in text r.draft asked.expression days) r.draft.level)) days
      ∙ ap (option_map (asked_in text r.draft asked.expression asked.days)) level
      ∙ (λ i. Some (record { days = asked.days; most = asked.most; file = file i; step = step i; with_effort = effort i; expression = asked.expression }))
    where
      one_at_most : (o : Option (List ℕ)) → length (option_to_list o) ≤ 1
      one_at_most None = omega arith
      one_at_most (Some x) = omega arith

      one_step : (s : Step) → length (step_said s) ≤ 1
      one_step Whole = omega arith
      one_step Day = omega arith
      one_step Week = omega arith

      one_effort : (b : Bool) → length (effort_said b) ≤ 1
      one_effort true = omega arith
      one_effort false = omega arith

      some_options : (os : List TableOption) (expression : Option (List ℕ)) → flat_map blocks os ≡ t.block ∷ [] → 0 < length (said os expression)
      some_options [] expression e = absurd cc
      some_options (o ∷ os) expression e = omega arith

      block_there : (at : Option ℕ) (name : List ℕ) → named text at ≡ name ∷ [] → option_and_then (λ at. block_of (word_at text at) today) at ≡ block_of name today
      block_there None name e = absurd cc
      block_there (Some at) name e = ap (λ w. block_of w today) (head_so (word_at text at) name e) where
        head_so : (x y : List ℕ) → x ∷ [] ≡ y ∷ [] → x ≡ y
        head_so x y e = cc

pub options_are_spelled : OptionsAreSpelled
options_are_spelled text today asked = (to_table text today asked, from_table text today asked)
