-- A line that is spelled so is read so.
use Rattle.std.proofs.Common.{◌≡◌, ◌≢◌, ◌∙◌, ℕ, ◌<◌, Bool, true, false, not, inl, inr, List, [], ◌∷◌, ◌++◌, length, drop, refl, sym, ap, subst, arith}
use Rattle.std.specs.Prelude.{◌==◌, ◌&&◌, nat_eq, if◌then◌else◌, codes, decimal, Option, Some, None, IfSome}
use Rattle.std.specs.List.{All, list_all, starts_with}
use Rattle.std.proofs.lemmas.Bool.Decides.{nat_tests}
use Rattle.std.proofs.lemmas.List.Elements.{All-cons, All-head, All-nil, All-tail}
use Rattle.std.proofs.lemmas.Str.{is_utf8-from_IsUtf8}
use Rattle.org_base.specs.FileName.{is_name_byte}
use Rattle.org_cal.specs.Texts.{date_of, time_of}
use Rattle.org_base.specs.declared.profile.Profile.{Profile as AnyProfile}
use Rattle.org_base.specs.declared.profile.Profile.TheVariants.{One, Two}
use Rattle.org_wire.specs.Laws.{LinesAreSpelled}
use Rattle.org_wire.specs.Lines.{cut_at}
use Rattle.org_wire.specs.Spelled.{AreKeywords, AreNames, IsFrameLine, IsLineOf, IsName, IsNumber, IsQuestion, IsSeen, IsView, IsViewWith, IsWord, file_parts, keyword_parts, parted, profile_word, seen_parts, spaced}
use Rattle.org_wire.specs.Stream.{Bad, Framed, Line, Plainly, add_line, agenda_line, at_line, complete_at, complete_line, dated_line, edit_at, edit_del, edit_line, file_line, first_number, inherit_line, is_name, is_one_word, line_of, list_line, match_line, moment_of, number_of, pin_line, pinned_line, question_line, seen_name, seen_of, seen_serial, seen_session, sized, todo_line, unpin_line, view_line, view_words, words_from, words_line}
use Rattle.org_wire.specs.declared.command.Command.{Command}
use Rattle.org_wire.specs.declared.command.Command.TheVariants.{Add, Agenda, At, Clock, Complete, Drop, Edit, Inherit, Keywords, Match, Pin, Profile, Text, Todo, Unpin, Version}
use Rattle.org_wire.specs.declared.command.PayloadHeader.{PayloadHeader}
use Rattle.org_wire.specs.declared.command.PayloadHeader.TheVariants as frame
use Rattle.org_engine.specs.declared.question.Form.{Form}
use Rattle.org_engine.specs.declared.question.Form.TheVariants as form
use Rattle.org_wire.specs.declared.command.Request.{Request}
use Rattle.org_wire.specs.declared.command.BaseVersion.{BaseVersion}
use Rattle.org_wire.proofs.NumberLemmas.{numbers_are_spelled}
use Rattle.org_wire.proofs.SpelledLines.{Spelled, both, spelled_so}
use Rattle.org_wire.proofs.SpelledWords.{apart, cut_back, first_back, parted_more, words_back}

-- tests that hold
all_pass : (text : List ℕ) → All (λ b. b ≢ 32) text → list_all (λ b. not (b == 32)) text ≡ true
all_pass [] others = refl
all_pass (b ∷ text) others =
    let P : ℕ → Type 0 = λ b. b ≢ 32 in
    rw (apart b 32 (All-head P b text others)) (all_pass text (All-tail P b text others))

some_length : (text : List ℕ) → 0 < length text → not (length text == 0) ≡ true
some_length [] some = absurd (omega (arith, some))
some_length (b ∷ text) some = grind (arith, nat_tests)

name_so : (word : List ℕ) → IsName word → is_name word ≡ true
name_so word is = rw (is.0, is_utf8-from_IsUtf8 word is.1) refl

word_so : (word : List ℕ) → IsWord word → is_one_word word ≡ true
word_so word is = rw (some_length word is.0.0, all_pass word is.0.1, is_utf8-from_IsUtf8 word is.1) refl

number_so : (n : ℕ) → IsNumber n → number_of (decimal n) ≡ Some n
number_so n le = (numbers_are_spelled (decimal n) n).1 (refl, le)

-- no space stands in a name
bytes_apart : (word : List ℕ) → list_all is_name_byte word ≡ true → All (λ b. b ≢ 32) word
bytes_apart [] e = All-nil (λ b. b ≢ 32)
bytes_apart (b ∷ word) e =
    let p = both (is_name_byte b) (list_all is_name_byte word) e in
    let other : b ≢ 32 = grind (arith, nat_tests, p.0) in
    All-cons (λ b. b ≢ 32) b word other (bytes_apart word p.1)

name_apart : (word : List ℕ) → IsName word → All (λ b. b ≢ 32) word
name_apart word is = bytes_apart word (both _ _ is.0).1

file_apart : (name : List ℕ) → IsName name → All (λ b. b ≢ 32) (codes "file=" ++ name)
file_apart name is =
    let P : ℕ → Type 0 = λ b. b ≢ 32 in
    All-cons P 102 (105 ∷ 108 ∷ 101 ∷ 61 ∷ name) (grind arith) (All-cons P 105 (108 ∷ 101 ∷ 61 ∷ name) (grind arith) (All-cons P 108 (101 ∷ 61 ∷ name) (grind arith)
    (All-cons P 101 (61 ∷ name) (grind arith) (All-cons P 61 name (grind arith) (name_apart name is)))))

and_false : (b : Bool) → (b && false) ≡ false
and_false true = refl
and_false false = refl

module _ (second : Bool) where
  -- commands of one name or one number
  name_line : (command : List ℕ → Command) (name : List ℕ) → IsName name → (if is_name name then Plainly (command name) else Bad) ≡ Plainly (command name)
  name_line command name is = rw (name_so name is) refl

  drop_back : (name : List ℕ) → IsName name → line_of second (codes "drop" ++ (32 ∷ name)) ≡ Plainly (Drop name)
  unfolding line_of
  drop_back name is = name_line Drop name is

  text_back : (name : List ℕ) → IsName name → line_of second (codes "text" ++ (32 ∷ name)) ≡ Plainly (Text name)
  unfolding line_of
  text_back name is = name_line Text name is

  keywords_back : (name : List ℕ) → IsName name → second ≡ true → line_of second (codes "keywords" ++ (32 ∷ name)) ≡ Plainly (Keywords name)
  unfolding line_of
  keywords_back name is known = rw known (name_line Keywords name is)

  version_back : second ≡ true → line_of second (codes "version") ≡ Plainly Version
  unfolding line_of
  version_back known = rw known refl

  pin_back : (n : ℕ) → IsNumber n → line_of second (codes "pin" ++ (32 ∷ decimal n)) ≡ Plainly (Pin n)
  unfolding line_of
  pin_back n le = ap pin_line (number_so n le)

  profile_back : (p : AnyProfile) → line_of second (codes "profile" ++ (32 ∷ profile_word p)) ≡ Plainly (Profile p)
  unfolding line_of
  profile_back One = refl
  profile_back Two = refl

  unpin_back : (n : ℕ) → IsNumber n → line_of second (codes "unpin" ++ (32 ∷ decimal n)) ≡ Plainly (Unpin n)
  unfolding line_of
  unpin_back n le = ap unpin_line (number_so n le)

  -- `inherit`
  inherit_back : (names : List (List ℕ)) → AreNames names → line_of second (spaced (codes "inherit" ∷ names)) ≡ Plainly (Inherit names)
  unfolding line_of
  inherit_back [] is = refl
  inherit_back (name ∷ names) is =
      let text : List ℕ = spaced (name ∷ names) in
      let w = words_back 32 (name ∷ names) (omega arith) is.0 in
      let read : inherit_line text ≡ Plainly (Inherit (words_from 32 [] text)) = rw (is_utf8-from_IsUtf8 text is.1, w.0) refl in
      read ∙ ap (λ ns. Plainly (Inherit ns)) w.1

  -- `at`
  at_back : (date time : List ℕ) → IsWord date → IsWord time → line_of second (codes "at" ++ (32 ∷ (date ++ (32 ∷ time)))) ≡ Plainly (At (moment_of (date_of date) (time_of time)))
  unfolding line_of
  at_back date time d t =
      let both_words : at_line (Some (record { before = date; after = time })) ≡ Plainly (At (moment_of (date_of date) (time_of time))) = rw (word_so date d, word_so time t) refl in
      ap at_line (cut_back 32 date time d.0.1) ∙ both_words

  -- `add`
  add_back : (name : List ℕ) (size : ℕ) → IsName name → IsNumber size → line_of second (codes "add" ++ (32 ∷ (name ++ (32 ∷ decimal size)))) ≡ Framed (frame.Add name) size
  unfolding line_of
  add_back name size is le =
      let named : add_line (Some (record { before = name; after = decimal size })) ≡ sized (frame.Add name) (number_of (decimal size)) = rw (name_so name is) refl in
      ap add_line (cut_back 32 name (decimal size) (name_apart name is)) ∙ named ∙ ap (sized (frame.Add name)) (number_so size le)

  -- what a session saw
  seen_back : (seen : BaseVersion) (rest : List ℕ) → IsSeen seen → seen_of (decimal seen.session ++ (32 ∷ (seen.name ++ (32 ∷ (decimal seen.serial ++ (32 ∷ rest)))))) ≡ Some (seen, rest)
  seen_back seen rest is =
      let last : List ℕ = decimal seen.serial ++ (32 ∷ rest) in
      let named : seen_name seen.session (Some (record { before = seen.name; after = last })) ≡ seen_serial seen.session seen.name (first_number (cut_at 32 last)) = rw (name_so seen.name is.1) refl in
      ap seen_session (first_back seen.session (seen.name ++ (32 ∷ last)) is.0)
      ∙ ap (seen_name seen.session) (cut_back 32 seen.name last (name_apart seen.name is.1))
      ∙ named
      ∙ ap (seen_serial seen.session seen.name) (first_back seen.serial rest is.2)

  complete_back : (seen : BaseVersion) (place : ℕ) (keyword : List ℕ) → IsSeen seen → IsNumber place → IsWord keyword →
      line_of second (spaced (codes "complete" ∷ (seen_parts seen ++ (decimal place ∷ (keyword ∷ []))))) ≡ Plainly (Complete seen place keyword)
  unfolding line_of
  complete_back seen place keyword is le word =
      let rest : List ℕ = decimal place ++ (32 ∷ keyword) in
      let last : complete_at seen (Some (place, keyword)) ≡ Plainly (Complete seen place keyword) = rw (word_so keyword word) refl in
      ap complete_line (seen_back seen rest is) ∙ ap (complete_at seen) (first_back place keyword le) ∙ last

  edit_back : (seen : BaseVersion) (at del size : ℕ) → IsSeen seen → IsNumber at → IsNumber del → IsNumber size →
      line_of second (spaced (codes "edit" ∷ (seen_parts seen ++ (decimal at ∷ (decimal del ∷ (decimal size ∷ [])))))) ≡ Framed (frame.Edit seen at del) size
  unfolding line_of
  edit_back seen at del size is a d n =
      let more : List ℕ = decimal del ++ (32 ∷ decimal size) in
      ap edit_line (seen_back seen (decimal at ++ (32 ∷ more)) is)
      ∙ ap (edit_at seen) (first_back at more a)
      ∙ ap (edit_del seen at) (first_back del (decimal size) d)
      ∙ ap (sized (frame.Edit seen at del)) (number_so size n)

  -- a question, asked of the current world and of what a session keeps
  pinned_back : (session : ℕ) (question : List ℕ) → IsNumber session → line_of second (codes "pinned" ++ (32 ∷ (decimal session ++ (32 ∷ question)))) ≡ question_line second (Some session) question
  unfolding line_of
  pinned_back session question le = ap (pinned_line second) (first_back session question le)

  asked_back : (session : Option ℕ) (parts : List (List ℕ)) (line : List ℕ) (l : Line) → 0 < length parts → line_of second (spaced parts) ≡ question_line second None (spaced parts) →
      question_line second session (spaced parts) ≡ l → IsQuestion session parts line → line_of second line ≡ l
  asked_back None parts line l some first says is = ap (line_of second) is ∙ first ∙ says
  asked_back (Some session) parts line l some first says is =
      let whole : line ≡ codes "pinned" ++ (32 ∷ (decimal session ++ (32 ∷ spaced parts))) = is.0 ∙ ap (λ t. codes "pinned" ++ (32 ∷ t)) (parted_more 32 (decimal session) parts some) in
      ap (line_of second) whole ∙ pinned_back session (spaced parts) is.1 ∙ says

  -- in each form
  no_places : (session : Option ℕ) (question : List ℕ) → starts_with nat_eq question (codes "places ") ≡ false → question_line second session question ≡ view_line (record { session = session; form = form.Text }) question
  no_places session question other =
      ap (λ b. if b then view_line (record { session = session; form = form.Places }) (drop 7 question) else view_line (record { session = session; form = form.Text }) question)
      (ap (λ b. second && b) other ∙ and_false second)

  places_back : (session : Option ℕ) (view : List ℕ) → second ≡ true → question_line second session (codes "places" ++ (32 ∷ view)) ≡ view_line (record { session = session; form = form.Places }) view
  places_back session view known =
      ap (λ b. if b then view_line (record { session = session; form = form.Places }) view else view_line (record { session = session; form = form.Text }) (codes "places" ++ (32 ∷ view)))
      (ap (λ b. b && starts_with nat_eq (codes "places" ++ (32 ∷ view)) (codes "places ")) known)

  places_first : (view : List ℕ) → line_of second (codes "places" ++ (32 ∷ view)) ≡ question_line second None (codes "places" ++ (32 ∷ view))
  unfolding line_of
  places_first view = refl

  form_back : (session : Option ℕ) (f : Form) (parts : List (List ℕ)) (line : List ℕ) (l : Line) → 0 < length parts → line_of second (spaced parts) ≡ question_line second None (spaced parts) →
      starts_with nat_eq (spaced parts) (codes "places ") ≡ false → view_line (record { session = session; form = f }) (spaced parts) ≡ l → IsView second (record { session = session; form = f }) parts line → line_of second line ≡ l
  form_back session form.Text parts line l some first other says is = asked_back session parts line l some first (no_places session (spaced parts) other ∙ says) is.0
  form_back session form.Places parts line l some first other says is =
      let whole : spaced (codes "places" ∷ parts) ≡ codes "places" ++ (32 ∷ spaced parts) = parted_more 32 (codes "places") parts some in
      asked_back session (codes "places" ∷ parts) line l (omega arith)
      (ap (line_of second) whole ∙ places_first (spaced parts) ∙ ap (question_line second None) (sym whole))
      (ap (question_line second session) whole ∙ places_back session (spaced parts) is.1 ∙ says) is.0

  view_back : (request : Request) (parts : List (List ℕ)) (line : List ℕ) (l : Line) → 0 < length parts → line_of second (spaced parts) ≡ question_line second None (spaced parts) →
      starts_with nat_eq (spaced parts) (codes "places ") ≡ false → view_line request (spaced parts) ≡ l → IsView second request parts line → line_of second line ≡ l
  view_back request parts line l some first other says is = form_back request.session request.form parts line l some first other says is

  -- a list over the file of a name, and over all files
  named_first : (name rest : List ℕ) → IsName name → cut_at 32 ((codes "file=" ++ name) ++ (32 ∷ rest)) ≡ Some (record { before = codes "file=" ++ name; after = rest })
  named_first name rest is = cut_back 32 (codes "file=" ++ name) rest (file_apart name is)

  named_list : (request : Request) (name list : List ℕ) → IsName name → view_line request ((codes "file=" ++ name) ++ (32 ∷ list)) ≡ list_line request (Some name) list
  named_list request name list is =
      let named : file_line request name list ≡ list_line request (Some name) list = rw (name_so name is) refl in
      ap (view_words request) (named_first name list is) ∙ named

  named_line : (name list : List ℕ) → IsName name → line_of second ((codes "file=" ++ name) ++ (32 ∷ list)) ≡ question_line second None ((codes "file=" ++ name) ++ (32 ∷ list))
  unfolding line_of
  named_line name list is = ap (words_line second ((codes "file=" ++ name) ++ (32 ∷ list))) (named_first name list is)

  list_back : (request : Request) (file : Option (List ℕ)) (parts : List (List ℕ)) (line : List ℕ) (l : Line) → 0 < length parts → IfSome file IsName → line_of second (spaced parts) ≡ question_line second None (spaced parts) →
      starts_with nat_eq (spaced parts) (codes "places ") ≡ false →
      view_line request (spaced parts) ≡ list_line request None (spaced parts) → list_line request file (spaced parts) ≡ l → IsView second request (file_parts file ++ parts) line → line_of second line ≡ l
  list_back request None parts line l some named first other plain says is = view_back request parts line l some first other (plain ∙ says) is
  list_back request (Some name) parts line l some named first other plain says is =
      let whole : spaced (file_parts (Some name) ++ parts) ≡ (codes "file=" ++ name) ++ (32 ∷ spaced parts) = parted_more 32 (codes "file=" ++ name) parts some in
      view_back request (file_parts (Some name) ++ parts) line l (omega arith)
      (ap (line_of second) whole ∙ named_line name (spaced parts) named ∙ ap (question_line second None) (sym whole))
      (ap (λ t. starts_with nat_eq t (codes "places ")) whole)
      (ap (view_line request) whole ∙ named_list request name (spaced parts) named ∙ says) is

  todo_back : (request : Request) (file : Option (List ℕ)) (keywords : List (List ℕ)) (line : List ℕ) → IsView second request (file_parts file ++ (codes "todo" ∷ keyword_parts keywords)) line → AreKeywords keywords → IfSome file IsName →
      line_of second line ≡ Plainly (Todo request file keywords)
  unfolding line_of
  todo_back request file [] line is all named = list_back request file (codes "todo" ∷ []) line (Plainly (Todo request file [])) (omega arith) named refl refl refl refl is
  todo_back request file (k ∷ ks) line is all named =
      let text : List ℕ = parted 124 (k ∷ ks) in
      let w = words_back 124 (k ∷ ks) (omega arith) all.0 in
      let read : todo_line request file text ≡ Plainly (Todo request file (words_from 124 [] text)) = rw (is_utf8-from_IsUtf8 text all.2, all_pass text all.1, w.0) refl in
      list_back request file (codes "todo" ∷ (text ∷ [])) line (Plainly (Todo request file (k ∷ ks))) (omega arith) named refl refl refl (read ∙ ap (λ ns. Plainly (Todo request file ns)) w.1) is

  match_back : (request : Request) (file : Option (List ℕ)) (text line : List ℕ) → IsViewWith second request (file_parts file) (codes "match") text line → IfSome file IsName → line_of second line ≡ Plainly (Match request file text)
  unfolding line_of
  match_back request file text line (inl is) named =
      let read : match_line request file text ≡ Plainly (Match request file text) = rw (is_utf8-from_IsUtf8 text is.1) refl in
      list_back request file (codes "match" ∷ (text ∷ [])) line (Plainly (Match request file text)) (omega arith) named refl refl refl read is.0
  match_back request file text line (inr is) named =
      list_back request file (codes "match" ∷ []) line (Plainly (Match request file [])) (omega arith) named refl refl refl refl is.0 ∙ ap (λ t. Plainly (Match request file t)) (sym is.1)

  clock_back : (request : Request) (text line : List ℕ) → IsViewWith second request [] (codes "clock") text line → line_of second line ≡ Plainly (Clock request text)
  unfolding line_of
  clock_back request text line (inl is) =
      let read : view_line request (codes "clock" ++ (32 ∷ text)) ≡ Plainly (Clock request text) = rw (is_utf8-from_IsUtf8 text is.1) refl in
      view_back request (codes "clock" ∷ (text ∷ [])) line (Plainly (Clock request text)) (omega arith) refl refl read is.0
  clock_back request text line (inr is) =
      view_back request (codes "clock" ∷ []) line (Plainly (Clock request [])) (omega arith) refl refl refl is.0 ∙ ap (λ t. Plainly (Clock request t)) (sym is.1)

  agenda_back : (request : Request) (date line : List ℕ) (days : ℕ) → IsView second request (codes "agenda" ∷ (date ∷ (decimal days ∷ []))) line → IsWord date → IsNumber days → line_of second line ≡ Plainly (Agenda request date days)
  unfolding line_of
  agenda_back request date line days is word le =
      let text : List ℕ = date ++ (32 ∷ decimal days) in
      let dated : agenda_line request (Some (record { before = date; after = decimal days })) ≡ dated_line request date (number_of (decimal days)) = rw (word_so date word) refl in
      let read : view_line request (codes "agenda" ++ (32 ∷ text)) ≡ Plainly (Agenda request date days) =
      ap (agenda_line request) (cut_back 32 date (decimal days) word.0.1) ∙ dated ∙ ap (dated_line request date) (number_so days le) in
      view_back request (codes "agenda" ∷ (date ∷ (decimal days ∷ []))) line (Plainly (Agenda request date days)) (omega arith) refl refl read is

  plain_back : (line : List ℕ) (command : Command) → IsLineOf second command line → line_of second line ≡ Plainly command
  plain_back line (Add name bytes) is = absurd is
  plain_back line (Drop name) is = ap (line_of second) is.0 ∙ drop_back name is.1
  plain_back line (Edit seen at del bytes) is = absurd is
  plain_back line (Complete seen place keyword) is = ap (line_of second) is.0 ∙ complete_back seen place keyword is.1 is.2 is.3
  plain_back line (Inherit names) is = ap (line_of second) is.0 ∙ inherit_back names is.1
  plain_back line (At moment) is = ap (line_of second) is.2 ∙ at_back is.0 is.1 is.3 is.4 ∙ ap (λ m. Plainly (At m)) (sym is.5)
  plain_back line (Profile p) is = ap (line_of second) is ∙ profile_back p
  plain_back line (Pin session) is = ap (line_of second) is.0 ∙ pin_back session is.1
  plain_back line (Unpin session) is = ap (line_of second) is.0 ∙ unpin_back session is.1
  plain_back line (Text name) is = ap (line_of second) is.0 ∙ text_back name is.1
  plain_back line (Keywords name) is = ap (line_of second) is.0 ∙ keywords_back name is.1 is.2
  plain_back line Version is = ap (line_of second) is.0 ∙ version_back is.1
  plain_back line (Todo request file keywords) is = todo_back request file keywords line is.0 is.1 is.2
  plain_back line (Match request file text) is = match_back request file text line is.0 is.1
  plain_back line (Agenda request date days) is = agenda_back request date line days is.0 is.1 is.2
  plain_back line (Clock request text) is = clock_back request text line is

  framed_back : (line : List ℕ) (frame : PayloadHeader) (size : ℕ) → IsFrameLine frame size line → line_of second line ≡ Framed frame size
  framed_back line (frame.Add name) size is = ap (line_of second) is.0 ∙ add_back name size is.1 is.2
  framed_back line (frame.Edit seen at del) size is = ap (line_of second) is.0 ∙ edit_back seen at del size is.1 is.2 is.3 is.4

pub lines_are_spelled : LinesAreSpelled
lines_are_spelled second = record {
  plain = λ line command. (λ e. subst (λ (l : Line). Spelled second l line) e (spelled_so second line), plain_back second line command);
  command_of_frame = λ line frame size. (λ e. subst (λ (l : Line). Spelled second l line) e (spelled_so second line), framed_back second line frame size);
}
