-- What the reader says of a line is spelled on it.
use Rattle.std.proofs.Common.{◌≡◌, ◌≢◌, ◌∙◌, ℕ, ◌<◌, Bool, true, false, not, inl, inr, List, [], ◌∷◌, ◌++◌, length, drop, refl, sym, ap, subst, arith}
use Rattle.std.specs.Prelude.{◌==◌, ◌&&◌, if◌then◌else◌, codes, decimal, nat_eq, Option, Some, None, IfSome}
use Rattle.std.specs.Cmp.Lexicographic.{same_text}
use Rattle.std.specs.List.{All, list_all, starts_with}
use Rattle.std.specs.Str.{IsUtf8, bytes_eq, is_utf8}
use Rattle.std.proofs.lemmas.Bool.{cases_Bool, eqb-false}
use Rattle.std.proofs.lemmas.Bool.Decides.{Decides-eqb}
use Rattle.std.proofs.lemmas.List.Elements.{All-cons, All-nil}
use Rattle.std.proofs.lemmas.Slice.Eq.{starts_is}
use Rattle.std.proofs.lemmas.Str.{IsUtf8-from_is_utf8, IsUtf8-nil}
use Rattle.org_base.specs.FileName.{is_file_name}
use Rattle.org_wire.specs.Lines.{Cut, cut_at}
use Rattle.org_wire.specs.Spelled.{IsFrameLine, IsKnown, IsLineOf, IsName, IsNumber, IsQuestion, IsSeen, IsView, IsWord, file_parts, form_parts, keyword_parts, parted, spaced}
use Rattle.org_wire.specs.Stream.{Bad, Framed, Line, Plainly, add_line, agenda_line, are_words, at_line, clock_line, complete_at, complete_line, dated_line, drop_line, edit_at, edit_del, edit_line, file_line, first_number, inherit_line, is_name, keywords_line, is_one_word, is_word, line_of, list_line, list_words, match_line, moment_of, number_of, pin_line, pinned_line, profile_line, question_line, seen_name, seen_of, seen_serial, seen_session, sized, text_line, todo_line, unpin_line, view_line, view_words, words_from, words_line}
use Rattle.org_wire.specs.declared.command.Command.TheVariants.{At, Clock, Complete, Drop, Inherit, Keywords, Match, Profile, Text, Todo, Version}
use Rattle.org_base.specs.declared.profile.Profile.TheVariants.{One, Two}
use Rattle.org_wire.specs.declared.command.PayloadHeader.{PayloadHeader}
use Rattle.org_wire.specs.declared.command.PayloadHeader.TheVariants as frame
use Rattle.org_engine.specs.declared.question.Form.{Form}
use Rattle.org_engine.specs.declared.question.Form.TheVariants as form
use Rattle.org_wire.specs.declared.command.Request.{Request}
use Rattle.org_wire.specs.declared.command.BaseVersion.{BaseVersion}
use Rattle.org_cal.specs.Texts.{date_of, time_of}
use Rattle.org_wire.proofs.NumberLemmas.{numbers_are_spelled}
use Rattle.org_wire.proofs.SpelledWords.{FirstSays, IsThere, Says, cut_says, first_says, parted_more, some_word, words_there}

pub both : (a b : Bool) → (a && b) ≡ true → (a ≡ true) × (b ≡ true)
both true b e = (refl, e)
both false b e = absurd cc

same : (word other : List ℕ) → bytes_eq word other ≡ true → word ≡ other
same word other e = same_text word other (sym e)

module _ (second : Bool) where
  abbrev pub Spelled : Line → List ℕ → Type 0
  Spelled Bad line = Unit {0}
  Spelled (Plainly command) line = IsLineOf second command line
  Spelled (Framed frame size) line = IsFrameLine frame size line

  -- one of two readings
  choose : (line : List ℕ) (test : Bool) (a b : Line) → (test ≡ true → Spelled a line) → Spelled b line → Spelled (if test then a else b) line
  choose line true a b f g = f refl
  choose line false a b f g = g

  -- a first word that is the one asked for
  headed : (line : List ℕ) (cut : Cut) (word : List ℕ) → IsThere 32 line cut → bytes_eq cut.before word ≡ true → line ≡ word ++ (32 ∷ cut.after)
  headed line cut word there e = there.0 ∙ ap (λ w. w ++ (32 ∷ cut.after)) (same cut.before word e)

  name_is : (word : List ℕ) → is_name word ≡ true → IsName word
  name_is word e = let b = both (is_file_name word) (is_utf8 word) e in (b.0, IsUtf8-from_is_utf8 word b.1)

  differs : (gap x : ℕ) (t : Bool) → (x == gap) ≡ t → not t ≡ true → x ≢ gap
  differs gap x true e n = absurd cc
  differs gap x false e n = eqb-false x gap e

  others : (gap : ℕ) (text : List ℕ) → list_all (λ b. not (b == gap)) text ≡ true → All (λ b. b ≢ gap) text
  others gap [] e = All-nil (λ b. b ≢ gap)
  others gap (x ∷ xs) e =
      let b = both (not (x == gap)) (list_all (λ b. not (b == gap)) xs) e in
      All-cons (λ b. b ≢ gap) x xs (differs gap x (x == gap) refl b.0) (others gap xs b.1)

  some : (text : List ℕ) → not (length text == 0) ≡ true → 0 < length text
  some [] e = absurd cc
  some (b ∷ text) e = omega arith

  word_is : (word : List ℕ) → is_one_word word ≡ true → IsWord word
  word_is word e =
      let a = both (not (length word == 0) && is_word word) (is_utf8 word) e in
      let b = both (not (length word == 0)) (is_word word) a.0 in
      ((some word b.0, others 32 word b.1), IsUtf8-from_is_utf8 word a.1)

  -- `drop`, `text`, `pin` and `unpin`
  drop_says : (line name : List ℕ) → line ≡ codes "drop" ++ (32 ∷ name) → Spelled (drop_line name) line
  drop_says line name e = choose line (is_name name) (Plainly (Drop name)) Bad (λ y. (e, name_is name y)) tt

  text_says : (line name : List ℕ) → line ≡ codes "text" ++ (32 ∷ name) → Spelled (text_line name) line
  text_says line name e = choose line (is_name name) (Plainly (Text name)) Bad (λ y. (e, name_is name y)) tt

  keywords_says : (line name : List ℕ) → line ≡ codes "keywords" ++ (32 ∷ name) → second ≡ true → Spelled (keywords_line name) line
  keywords_says line name e known = choose line (is_name name) (Plainly (Keywords name)) Bad (λ y. (e, name_is name y, known)) tt

  -- a last word that is a number
  number_is : (line front word : List ℕ) (n : ℕ) → line ≡ front ++ (32 ∷ word) → number_of word ≡ Some n → (line ≡ front ++ (32 ∷ decimal n)) × IsNumber n
  number_is line front word n e k =
      let number = (numbers_are_spelled word n).0 k in
      (e ∙ ap (λ w. front ++ (32 ∷ w)) number.0, number.1)

  pin_says : (line word : List ℕ) (n : Option ℕ) → number_of word ≡ n → line ≡ codes "pin" ++ (32 ∷ word) → Spelled (pin_line n) line
  pin_says line word None k e = tt
  pin_says line word (Some n) k e = number_is line (codes "pin") word n e k

  -- a last word that is one of two
  profile_says : (line word : List ℕ) → line ≡ codes "profile" ++ (32 ∷ word) → Spelled (profile_line word) line
  profile_says line word e =
      choose line (bytes_eq word (codes "1")) (Plainly (Profile One)) _ (λ y. e ∙ ap (λ w. codes "profile" ++ (32 ∷ w)) (same word (codes "1") y))
      (choose line (bytes_eq word (codes "2")) (Plainly (Profile Two)) Bad (λ y. e ∙ ap (λ w. codes "profile" ++ (32 ∷ w)) (same word (codes "2") y)) tt)

  unpin_says : (line word : List ℕ) (n : Option ℕ) → number_of word ≡ n → line ≡ codes "unpin" ++ (32 ∷ word) → Spelled (unpin_line n) line
  unpin_says line word None k e = tt
  unpin_says line word (Some n) k e = number_is line (codes "unpin") word n e k

  -- `inherit`
  inherit_says : (line names : List ℕ) → line ≡ codes "inherit" ++ (32 ∷ names) → Spelled (inherit_line names) line
  inherit_says line names e = choose line (is_utf8 names && are_words 32 true names) (Plainly (Inherit (words_from 32 [] names))) Bad (λ y.
      let b = both (is_utf8 names) (are_words 32 true names) y in
      let w = words_there 32 names b.1 in
      let words : List (List ℕ) = words_from 32 [] names in (
        e ∙ ap (λ t. codes "inherit" ++ (32 ∷ t)) w.0 ∙ sym (parted_more 32 (codes "inherit") words (some_word 32 [] names)),
        (w.1, subst IsUtf8 w.0 (IsUtf8-from_is_utf8 names b.0)),
      )) tt

  inherit_alone : (line : List ℕ) → line ≡ codes "inherit" → Spelled (Plainly (Inherit [])) line
  inherit_alone line e = (e, (All-nil _, IsUtf8-nil))

  -- `at`
  at_says : (line rest : List ℕ) (o : Option Cut) → Says 32 rest o → line ≡ codes "at" ++ (32 ∷ rest) → Spelled (at_line o) line
  at_says line rest None says e = tt
  at_says line rest (Some cut) says e = choose line (is_one_word cut.before && is_one_word cut.after) (Plainly (At (moment_of (date_of cut.before) (time_of cut.after)))) Bad (λ y.
      let b = both (is_one_word cut.before) (is_one_word cut.after) y in
      (cut.before, cut.after, e ∙ ap (λ t. codes "at" ++ (32 ∷ t)) says.0, word_is cut.before b.0, word_is cut.after b.1, refl)) tt

  -- a payload of so many bytes
  sized_says : (line word : List ℕ) (frame : PayloadHeader) (n : Option ℕ) → number_of word ≡ n → ((size : ℕ) → number_of word ≡ Some size → IsFrameLine frame size line) → Spelled (sized frame n) line
  sized_says line word frame None k is = tt
  sized_says line word frame (Some size) k is = is size k

  -- `add`
  add_says : (line rest : List ℕ) (o : Option Cut) → Says 32 rest o → line ≡ codes "add" ++ (32 ∷ rest) → Spelled (add_line o) line
  add_says line rest None says e = tt
  add_says line rest (Some cut) says e = choose line (is_name cut.before) (sized (frame.Add cut.before) (number_of cut.after)) Bad (λ y.
      sized_says line cut.after (frame.Add cut.before) (number_of cut.after) refl (λ size k.
      let number = (numbers_are_spelled cut.after size).0 k in
      (e ∙ ap (λ t. codes "add" ++ (32 ∷ t)) (says.0 ∙ ap (λ w. cut.before ++ (32 ∷ w)) number.0), name_is cut.before y, number.1))) tt

  -- what a session saw
  abbrev pub SeenSays : List ℕ → Option (BaseVersion × List ℕ) → Type 0
  SeenSays text None = Unit {0}
  SeenSays text (Some seen) =
      (text ≡ decimal seen.0.session ++ (32 ∷ (seen.0.name ++ (32 ∷ (decimal seen.0.serial ++ (32 ∷ seen.1)))))) × IsSeen seen.0

  serial_says : (text name rest : List ℕ) (session : ℕ) (o : Option (ℕ × List ℕ)) → FirstSays rest o → text ≡ decimal session ++ (32 ∷ (name ++ (32 ∷ rest))) → IsNumber session → IsName name → SeenSays text (seen_serial session name o)
  serial_says text name rest session None says e number is = tt
  serial_says text name rest session (Some serial) says e number is =
      (e ∙ ap (λ t. decimal session ++ (32 ∷ (name ++ (32 ∷ t)))) says.0, (number, is, says.1))

  name_says : (text rest : List ℕ) (session : ℕ) (o : Option Cut) → Says 32 rest o → text ≡ decimal session ++ (32 ∷ rest) → IsNumber session → SeenSays text (seen_name session o)
  name_says text rest session None says e number = tt
  name_says text rest session (Some cut) says e number = elim (cases_Bool (is_name cut.before)) [
    | inl yes' ↦ rw yes' (serial_says text cut.before cut.after session (first_number (cut_at 32 cut.after)) (first_says cut.after)
        (e ∙ ap (λ t. decimal session ++ (32 ∷ t)) says.0) number (name_is cut.before yes'))
    | inr no' ↦ rw no' tt
  ]

  session_says : (text : List ℕ) (o : Option (ℕ × List ℕ)) → FirstSays text o → SeenSays text (seen_session o)
  session_says text None says = tt
  session_says text (Some session) says = name_says text session.1 session.0 (cut_at 32 session.1) (cut_says 32 session.1) says.0 says.1

  pub seen_says : (text : List ℕ) → SeenSays text (seen_of text)
  seen_says text = session_says text (first_number (cut_at 32 text)) (first_says text)

  -- `complete`
  complete_word : (line rest : List ℕ) (seen : BaseVersion) (o : Option (ℕ × List ℕ)) → FirstSays rest o → IsSeen seen →
      line ≡ codes "complete" ++ (32 ∷ (decimal seen.session ++ (32 ∷ (seen.name ++ (32 ∷ (decimal seen.serial ++ (32 ∷ rest))))))) → Spelled (complete_at seen o) line
  complete_word line rest seen None says is e = tt
  complete_word line rest seen (Some place) says is e = choose line (is_one_word place.1) (Plainly (Complete seen place.0 place.1)) Bad (λ y.
      (e ∙ ap (λ t. codes "complete" ++ (32 ∷ (decimal seen.session ++ (32 ∷ (seen.name ++ (32 ∷ (decimal seen.serial ++ (32 ∷ t)))))))) says.0, is, says.1, word_is place.1 y)) tt

  complete_says : (line rest : List ℕ) (o : Option (BaseVersion × List ℕ)) → SeenSays rest o → line ≡ codes "complete" ++ (32 ∷ rest) → Spelled (complete_line o) line
  complete_says line rest None says e = tt
  complete_says line rest (Some seen) says e =
      complete_word line seen.1 seen.0 (first_number (cut_at 32 seen.1)) (first_says seen.1) says.1 (e ∙ ap (λ t. codes "complete" ++ (32 ∷ t)) says.0)

  -- `edit`
  edit_size : (line front rest : List ℕ) (seen : BaseVersion) (at : ℕ) (o : Option (ℕ × List ℕ)) → FirstSays rest o → IsSeen seen → IsNumber at →
      line ≡ codes "edit" ++ (32 ∷ (decimal seen.session ++ (32 ∷ (seen.name ++ (32 ∷ (decimal seen.serial ++ (32 ∷ (decimal at ++ (32 ∷ rest))))))))) → Spelled (edit_del seen at o) line
  edit_size line front rest seen at None says is number e = tt
  edit_size line front rest seen at (Some del) says is number e = sized_says line del.1 (frame.Edit seen at del.0) (number_of del.1) refl (λ size k.
      let last = (numbers_are_spelled del.1 size).0 k in
      let tail : rest ≡ decimal del.0 ++ (32 ∷ decimal size) = says.0 ∙ ap (λ w. decimal del.0 ++ (32 ∷ w)) last.0 in
      (e ∙ ap (λ t. codes "edit" ++ (32 ∷ (decimal seen.session ++ (32 ∷ (seen.name ++ (32 ∷ (decimal seen.serial ++ (32 ∷ (decimal at ++ (32 ∷ t)))))))))) tail, is, number, says.1, last.1))

  edit_place : (line rest : List ℕ) (seen : BaseVersion) (o : Option (ℕ × List ℕ)) → FirstSays rest o → IsSeen seen →
      line ≡ codes "edit" ++ (32 ∷ (decimal seen.session ++ (32 ∷ (seen.name ++ (32 ∷ (decimal seen.serial ++ (32 ∷ rest))))))) → Spelled (edit_at seen o) line
  edit_place line rest seen None says is e = tt
  edit_place line rest seen (Some at) says is e =
      edit_size line [] at.1 seen at.0 (first_number (cut_at 32 at.1)) (first_says at.1) is says.1
      (e ∙ ap (λ t. codes "edit" ++ (32 ∷ (decimal seen.session ++ (32 ∷ (seen.name ++ (32 ∷ (decimal seen.serial ++ (32 ∷ t)))))))) says.0)

  edit_says : (line rest : List ℕ) (o : Option (BaseVersion × List ℕ)) → SeenSays rest o → line ≡ codes "edit" ++ (32 ∷ rest) → Spelled (edit_line o) line
  edit_says line rest None says e = tt
  edit_says line rest (Some seen) says e =
      edit_place line seen.1 seen.0 (first_number (cut_at 32 seen.1)) (first_says seen.1) says.1 (e ∙ ap (λ t. codes "edit" ++ (32 ∷ t)) says.0)

  -- a view's own part of a line
  abbrev pub Asked : Option ℕ → List ℕ → List ℕ → Type 0
  Asked None view line = line ≡ view
  Asked (Some session) view line = (line ≡ codes "pinned" ++ (32 ∷ (decimal session ++ (32 ∷ view)))) × IsNumber session

  question_is : (session : Option ℕ) (parts : List (List ℕ)) (view line : List ℕ) → 0 < length parts → Asked session view line → view ≡ spaced parts → IsQuestion session parts line
  question_is None parts view line any whole e = whole ∙ e
  question_is (Some session) parts view line any whole e =
      (whole.0 ∙ ap (λ t. codes "pinned" ++ (32 ∷ t)) (ap (λ t. decimal session ++ (32 ∷ t)) e ∙ sym (parted_more 32 (decimal session) parts any)), whole.1)

  -- a view after the word for its form
  abbrev pub formed : Form → List ℕ → List ℕ
  formed form.Text view = view
  formed form.Places view = codes "places" ++ (32 ∷ view)

  formed_is : (f : Form) (parts : List (List ℕ)) (view : List ℕ) → 0 < length parts → view ≡ spaced parts → formed f view ≡ spaced (form_parts f ++ parts)
  formed_is form.Text parts view any e = e
  formed_is form.Places parts view any e = ap (λ t. codes "places" ++ (32 ∷ t)) e ∙ sym (parted_more 32 (codes "places") parts any)

  some_formed : (f : Form) (parts : List (List ℕ)) → 0 < length parts → 0 < length (form_parts f ++ parts)
  some_formed form.Text parts any = any
  some_formed form.Places parts any = omega arith

  -- a line that asks for a view so
  abbrev pub Whole : Request → List ℕ → List ℕ → Type 0
  Whole request view line = Asked request.session (formed request.form view) line × IsKnown second request.form

  view_is : (request : Request) (parts : List (List ℕ)) (view line : List ℕ) → 0 < length parts → Whole request view line → view ≡ spaced parts → IsView second request parts line
  view_is request parts view line any whole e =
      (question_is request.session (form_parts request.form ++ parts) (formed request.form view) line (some_formed request.form parts any) whole.0 (formed_is request.form parts view any e), whole.1)

  keywords_parted : (keywords : List (List ℕ)) → 0 < length keywords → keyword_parts keywords ≡ parted 124 keywords ∷ []
  keywords_parted [] any = absurd (omega (arith, any))
  keywords_parted (k ∷ ks) any = refl

  -- a list's own part of a view, after the name of the file that it is over
  abbrev pub Behind : Option (List ℕ) → List ℕ → List ℕ → Type 0
  Behind None list view = view ≡ list
  Behind (Some name) list view = (view ≡ (codes "file=" ++ name) ++ (32 ∷ list)) × IsName name

  behind_is : (file : Option (List ℕ)) (parts : List (List ℕ)) (list view : List ℕ) → 0 < length parts → Behind file list view → list ≡ spaced parts → view ≡ spaced (file_parts file ++ parts)
  behind_is None parts list view any behind e = behind ∙ e
  behind_is (Some name) parts list view any behind e =
      behind.0 ∙ ap (λ t. (codes "file=" ++ name) ++ (32 ∷ t)) e ∙ sym (parted_more 32 (codes "file=" ++ name) parts any)

  some_parts : (file : Option (List ℕ)) (parts : List (List ℕ)) → 0 < length parts → 0 < length (file_parts file ++ parts)
  some_parts None parts any = any
  some_parts (Some name) parts any = omega arith

  file_of : (file : Option (List ℕ)) (list view : List ℕ) → Behind file list view → IfSome file IsName
  file_of None list view behind = tt
  file_of (Some name) list view behind = behind.1

  list_is : (request : Request) (file : Option (List ℕ)) (parts : List (List ℕ)) (list view line : List ℕ) → 0 < length parts → Whole request view line → Behind file list view → list ≡ spaced parts →
      IsView second request (file_parts file ++ parts) line
  list_is request file parts list view line any whole behind e =
      view_is request (file_parts file ++ parts) view line (some_parts file parts any) whole (behind_is file parts list view any behind e)

  todo_says : (request : Request) (file : Option (List ℕ)) (list view line words : List ℕ) → Whole request view line → Behind file list view → list ≡ codes "todo" ++ (32 ∷ words) → Spelled (todo_line request file words) line
  todo_says request file list view line words whole behind e = choose line (is_utf8 words && is_word words && are_words 124 true words) (Plainly (Todo request file (words_from 124 [] words))) Bad (λ y.
      let keywords : List (List ℕ) = words_from 124 [] words in
      let a = both (is_utf8 words && is_word words) (are_words 124 true words) y in
      let b = both (is_utf8 words) (is_word words) a.0 in
      let w = words_there 124 words a.1 in
      let parts : codes "todo" ∷ keyword_parts keywords ≡ codes "todo" ∷ (parted 124 keywords ∷ []) = ap (λ p. codes "todo" ∷ p) (keywords_parted keywords (some_word 124 [] words)) in (
        subst (λ (p : List (List ℕ)). IsView second request (file_parts file ++ p) line) (sym parts)
            (list_is request file (codes "todo" ∷ (parted 124 keywords ∷ [])) list view line (omega arith) whole behind (e ∙ ap (λ t. codes "todo" ++ (32 ∷ t)) w.0)),
        (w.1, subst (λ (t : List ℕ). All (λ b. b ≢ 32) t) w.0 (others 32 words b.1), subst IsUtf8 w.0 (IsUtf8-from_is_utf8 words b.0)),
        file_of file list view behind,
      )) tt

  match_says : (request : Request) (file : Option (List ℕ)) (list view line text : List ℕ) → Whole request view line → Behind file list view → list ≡ codes "match" ++ (32 ∷ text) → Spelled (match_line request file text) line
  match_says request file list view line text whole behind e = choose line (is_utf8 text) (Plainly (Match request file text)) Bad (λ y.
      (inl (list_is request file (codes "match" ∷ (text ∷ [])) list view line (omega arith) whole behind e, IsUtf8-from_is_utf8 text y), file_of file list view behind)) tt

  list_words_say : (request : Request) (file : Option (List ℕ)) (list view line : List ℕ) (o : Option Cut) → Says 32 list o → Whole request view line → Behind file list view → Spelled (list_words request file o) line
  list_words_say request file list view line None says whole behind = tt
  list_words_say request file list view line (Some cut) says whole behind =
      choose line (bytes_eq cut.before (codes "todo")) (todo_line request file cut.after) _ (λ y. todo_says request file list view line cut.after whole behind (headed list cut (codes "todo") says y))
      (choose line (bytes_eq cut.before (codes "match")) (match_line request file cut.after) Bad (λ y. match_says request file list view line cut.after whole behind (headed list cut (codes "match") says y)) tt)

  list_says : (request : Request) (file : Option (List ℕ)) (list view line : List ℕ) → Whole request view line → Behind file list view → Spelled (list_line request file list) line
  list_says request file list view line whole behind =
      choose line (bytes_eq list (codes "todo")) (Plainly (Todo request file [])) _
      (λ y. (list_is request file (codes "todo" ∷ []) list view line (omega arith) whole behind (same list (codes "todo") y), (All-nil _, All-nil _, IsUtf8-nil), file_of file list view behind))
      (choose line (bytes_eq list (codes "match")) (Plainly (Match request file [])) _
      (λ y. (inr (list_is request file (codes "match" ∷ []) list view line (omega arith) whole behind (same list (codes "match") y), refl), file_of file list view behind))
      (list_words_say request file list view line (cut_at 32 list) (cut_says 32 list) whole behind))

  file_says : (request : Request) (view line name list : List ℕ) → Whole request view line → view ≡ (codes "file=" ++ name) ++ (32 ∷ list) → Spelled (file_line request name list) line
  file_says request view line name list whole e =
      choose line (is_name name) (list_line request (Some name) list) Bad (λ y. list_says request (Some name) list view line whole (e, name_is name y)) tt

  -- a first word that begins with the word for a file
  fronted : (view : List ℕ) (cut : Cut) → IsThere 32 view cut → starts_with nat_eq cut.before (codes "file=") ≡ true → view ≡ (codes "file=" ++ drop 5 cut.before) ++ (32 ∷ cut.after)
  fronted view cut there starts =
      there.0 ∙ ap (λ w. w ++ (32 ∷ cut.after)) ((starts_is Decides-eqb cut.before (codes "file=") (starts_with nat_eq cut.before (codes "file=")) refl).0 starts)

  clock_says : (request : Request) (view line text : List ℕ) → Whole request view line → view ≡ codes "clock" ++ (32 ∷ text) → Spelled (clock_line request text) line
  clock_says request view line text whole e = choose line (is_utf8 text) (Plainly (Clock request text)) Bad (λ y.
      inl (view_is request (codes "clock" ∷ (text ∷ [])) view line (omega arith) whole e, IsUtf8-from_is_utf8 text y)) tt

  dated_says : (request : Request) (view line date days : List ℕ) (n : Option ℕ) → number_of days ≡ n → Whole request view line → view ≡ codes "agenda" ++ (32 ∷ (date ++ (32 ∷ days))) → IsWord date → Spelled (dated_line request date n) line
  dated_says request view line date days None k whole e is = tt
  dated_says request view line date days (Some n) k whole e is =
      let number = (numbers_are_spelled days n).0 k in
      (view_is request (codes "agenda" ∷ (date ∷ (decimal n ∷ []))) view line (omega arith) whole (e ∙ ap (λ w. codes "agenda" ++ (32 ∷ (date ++ (32 ∷ w)))) number.0), is, number.1)

  agenda_says : (request : Request) (view line rest : List ℕ) (o : Option Cut) → Says 32 rest o → Whole request view line → view ≡ codes "agenda" ++ (32 ∷ rest) → Spelled (agenda_line request o) line
  agenda_says request view line rest None says whole e = tt
  agenda_says request view line rest (Some cut) says whole e = choose line (is_one_word cut.before) (dated_line request cut.before (number_of cut.after)) Bad (λ y.
      dated_says request view line cut.before cut.after (number_of cut.after) refl whole (e ∙ ap (λ t. codes "agenda" ++ (32 ∷ t)) says.0) (word_is cut.before y)) tt

  words_say : (request : Request) (view line : List ℕ) (o : Option Cut) → Says 32 view o → Whole request view line → Spelled (view_words request o) line
  words_say request view line None says whole = tt
  words_say request view line (Some cut) says whole =
      choose line (bytes_eq cut.before (codes "todo")) (todo_line request None cut.after) _ (λ y. todo_says request None view view line cut.after whole refl (headed view cut (codes "todo") says y))
      (choose line (bytes_eq cut.before (codes "match")) (match_line request None cut.after) _ (λ y. match_says request None view view line cut.after whole refl (headed view cut (codes "match") says y))
      (choose line (starts_with nat_eq cut.before (codes "file=")) (file_line request (drop 5 cut.before) cut.after) _ (λ y. file_says request view line (drop 5 cut.before) cut.after whole (fronted view cut says y))
      (choose line (bytes_eq cut.before (codes "clock")) (clock_line request cut.after) _ (λ y. clock_says request view line cut.after whole (headed view cut (codes "clock") says y))
      (choose line (bytes_eq cut.before (codes "agenda")) (agenda_line request (cut_at 32 cut.after)) Bad
      (λ y. agenda_says request view line cut.after (cut_at 32 cut.after) (cut_says 32 cut.after) whole (headed view cut (codes "agenda") says y)) tt))))

  view_says : (request : Request) (view line : List ℕ) → Whole request view line → Spelled (view_line request view) line
  view_says request view line whole =
      choose line (bytes_eq view (codes "todo")) (Plainly (Todo request None [])) _ (λ y. (view_is request (codes "todo" ∷ []) view line (omega arith) whole (same view (codes "todo") y), (All-nil _, All-nil _, IsUtf8-nil), tt))
      (choose line (bytes_eq view (codes "match")) (Plainly (Match request None [])) _ (λ y. (inr (view_is request (codes "match" ∷ []) view line (omega arith) whole (same view (codes "match") y), refl), tt))
      (choose line (bytes_eq view (codes "clock")) (Plainly (Clock request [])) _ (λ y. inr (view_is request (codes "clock" ∷ []) view line (omega arith) whole (same view (codes "clock") y), refl))
      (words_say request view line (cut_at 32 view) (cut_says 32 view) whole)))

  -- a question after the word for places
  placed : (question : List ℕ) → starts_with nat_eq question (codes "places ") ≡ true → question ≡ codes "places" ++ (32 ∷ drop 7 question)
  placed question starts = (starts_is Decides-eqb question (codes "places ") (starts_with nat_eq question (codes "places ")) refl).0 starts

  question_says : (session : Option ℕ) (question line : List ℕ) → Asked session question line → Spelled (question_line second session question) line
  question_says session question line asked =
      choose line (second && starts_with nat_eq question (codes "places ")) (view_line (record { session = session; form = form.Places }) (drop 7 question)) (view_line (record { session = session; form = form.Text }) question)
      (λ y.
      let known = both second (starts_with nat_eq question (codes "places ")) y in
      view_says (record { session = session; form = form.Places }) (drop 7 question) line (subst (λ (q : List ℕ). Asked session q line) (placed question known.1) asked, known.0))
      (view_says (record { session = session; form = form.Text }) question line (asked, tt))

  pinned_says : (line rest : List ℕ) (o : Option (ℕ × List ℕ)) → FirstSays rest o → line ≡ codes "pinned" ++ (32 ∷ rest) → Spelled (pinned_line second o) line
  pinned_says line rest None says e = tt
  pinned_says line rest (Some session) says e = question_says (Some session.0) session.1 line (e ∙ ap (λ t. codes "pinned" ++ (32 ∷ t)) says.0, says.1)

  line_says : (line : List ℕ) (o : Option Cut) → Says 32 line o → Spelled (words_line second line o) line
  line_says line None says = question_says None line line refl
  line_says line (Some cut) says =
      let rest : List ℕ = cut.after in
      choose line (bytes_eq cut.before (codes "edit")) (edit_line (seen_of rest)) _ (λ y. edit_says line rest (seen_of rest) (seen_says rest) (headed line cut (codes "edit") says y))
      (choose line (bytes_eq cut.before (codes "complete")) (complete_line (seen_of rest)) _ (λ y. complete_says line rest (seen_of rest) (seen_says rest) (headed line cut (codes "complete") says y))
      (choose line (bytes_eq cut.before (codes "text")) (text_line rest) _ (λ y. text_says line rest (headed line cut (codes "text") says y))
      (choose line (bytes_eq cut.before (codes "drop")) (drop_line rest) _ (λ y. drop_says line rest (headed line cut (codes "drop") says y))
      (choose line (bytes_eq cut.before (codes "inherit")) (inherit_line rest) _ (λ y. inherit_says line rest (headed line cut (codes "inherit") says y))
      (choose line (bytes_eq cut.before (codes "at")) (at_line (cut_at 32 rest)) _ (λ y. at_says line rest (cut_at 32 rest) (cut_says 32 rest) (headed line cut (codes "at") says y))
      (choose line (bytes_eq cut.before (codes "add")) (add_line (cut_at 32 rest)) _ (λ y. add_says line rest (cut_at 32 rest) (cut_says 32 rest) (headed line cut (codes "add") says y))
      (choose line (bytes_eq cut.before (codes "profile")) (profile_line rest) _ (λ y. profile_says line rest (headed line cut (codes "profile") says y))
      (choose line (bytes_eq cut.before (codes "pin")) (pin_line (number_of rest)) _ (λ y. pin_says line rest (number_of rest) refl (headed line cut (codes "pin") says y))
      (choose line (bytes_eq cut.before (codes "unpin")) (unpin_line (number_of rest)) _ (λ y. unpin_says line rest (number_of rest) refl (headed line cut (codes "unpin") says y))
      (choose line (bytes_eq cut.before (codes "pinned")) (pinned_line second (first_number (cut_at 32 rest))) _ (λ y. pinned_says line rest (first_number (cut_at 32 rest)) (first_says rest) (headed line cut (codes "pinned") says y))
      (choose line (bytes_eq cut.before (codes "keywords") && second) (keywords_line rest) (question_line second None line) (λ y. let known = both (bytes_eq cut.before (codes "keywords")) second y in keywords_says line rest (headed line cut (codes "keywords") says known.0) known.1)
      (question_says None line line refl))))))))))))

  pub spelled_so : (line : List ℕ) → Spelled (line_of second line) line
  unfolding line_of
  spelled_so line = choose line (bytes_eq line (codes "inherit")) (Plainly (Inherit [])) _ (λ y. inherit_alone line (same line (codes "inherit") y))
      (choose line (bytes_eq line (codes "version") && second) (Plainly Version) (words_line second line (cut_at 32 line)) (λ y. let known = both (bytes_eq line (codes "version")) second y in (same line (codes "version") known.0, known.1))
      (line_says line (cut_at 32 line) (cut_says 32 line)))
