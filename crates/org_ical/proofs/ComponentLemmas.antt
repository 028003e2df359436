-- The lines of a calendar are content lines, whatever the texts are.
use Rattle.std.proofs.Common.{◌≡◌, ℕ, ◌+◌, ◌/◌, ◌%◌, suc, zero, Bool, true, false, cond, not, List, [], ◌∷◌, ◌++◌, refl, arith}
use Rattle.std.specs.Prelude.{◌&&◌, ◌==◌, Option, None, Some, codes, decimal}
use Rattle.std.specs.Fmt.{digit_glyph, digits, digits_onto}
use Rattle.std.proofs.lemmas.Bool.{and_from, and_parts}
use Rattle.std.proofs.lemmas.Bool.Decides.{nat_tests}
use Rattle.org_ical.specs.Alarms.{trigger_line, wanted_alarm}
use Rattle.org_ical.specs.Components.{ComponentText, ShownText, begin_line, component_lines, components_lines, end_line, lines_if, lines_of, lines_of_shown, state_lines, status_line, times_lines}
use Rattle.org_ical.specs.Dates.{date_text, digit, moment_text, on_date, two}
use Rattle.org_ical.specs.Laws.{LinesAreShort, LinesReadBack}
use Rattle.org_ical.specs.Properties.{categories_lines, end_lines, priority_lines, some_text, stamp_line, when_line}
use Rattle.org_ical.specs.Recurrences.{dates_lines, event_dates, frequency_text, rule_line, rule_lines}
use Rattle.org_ical.specs.Texts.{escaped, escaped_byte, is_control, is_second, is_special, plain_behind, plain_byte, value_text, values_behind, values_text}
use Rattle.org_ical.specs.Uids.{times_in, uid_text}
use Rattle.org_ical.specs.Words.{WordsText, words_lines}
use Rattle.org_ical.specs.declared.component.Kind.{Kind}
use Rattle.org_ical.specs.declared.component.Kind.TheVariants.{Event, Task}
use Rattle.org_ical.specs.declared.component.Status.{Status}
use Rattle.org_ical.specs.declared.component.Status.TheVariants.{Cancelled, Confirmed}
use Rattle.org_ical.specs.declared.date.Date.{Date}
use Rattle.org_ical.specs.declared.date.Time.{Time}
use Rattle.org_ical.specs.declared.date.When.{When}
use Rattle.org_ical.specs.declared.date.When.TheVariants.{At, Between, Day, Days}
use Rattle.org_ical.specs.declared.rule.Frequency.{Frequency}
use Rattle.org_ical.specs.declared.rule.Frequency.TheVariants.{Daily, Monthly, Weekly, Yearly}
use Rattle.org_ical.specs.declared.rule.Rule.{Rule}
use Rattle.org_ical.specs.declared.value.TheConstants.{LEAD}
use Rattle.org_ical.proofs.ReadingLemmas.{are_content, are_inner, is_content, is_inner, lines_back, lines_short}

-- ---- values end no line

inner-append : (a b : List ℕ) → are_inner a ≡ true → are_inner b ≡ true → are_inner (a ++ b) ≡ true
inner-append [] b e f = f
inner-append (x ∷ xs) b e f = let own = and_parts (is_inner x) (are_inner xs) e in and_from _ _ own.0 (inner-append xs b own.1 f)

one_inner : (b : ℕ) (rest : List ℕ) → (b == 13) ≡ false → (b == 10) ≡ false → are_inner rest ≡ true → are_inner (b ∷ rest) ≡ true
one_inner b rest return feed e = λ i. (not (return i) && not (feed i)) && e i

no_return : (led : Bool) (b : ℕ) → (plain_byte led b == 13) ≡ false
no_return led b = first (b == 10)
  where
    third : (t : Bool) → is_control b ≡ false → (cond t 160 b == 13) ≡ false
    third true e = refl
    third false e = grind (arith, nat_tests, e)

    second : (t : Bool) → is_control b ≡ t → (cond t 32 (cond (led && is_second b) 160 b) == 13) ≡ false
    second true e = refl
    second false e = third (led && is_second b) e

    first : (t : Bool) → (cond t 10 (cond (is_control b) 32 (cond (led && is_second b) 160 b)) == 13) ≡ false
    first true = refl
    first false = second (is_control b) refl

inner_byte : (b : ℕ) → (b == 13) ≡ false → are_inner (escaped_byte b) ≡ true
inner_byte b return = by (b == 10) refl
  where
    other : (t : Bool) → (b == 10) ≡ false → are_inner (cond t (92 ∷ b ∷ []) (b ∷ [])) ≡ true
    other true feed = one_inner b [] return feed refl
    other false feed = one_inner b [] return feed refl

    by : (t : Bool) → (b == 10) ≡ t → are_inner (cond t (92 ∷ 110 ∷ []) (cond (is_special b) (92 ∷ b ∷ []) (b ∷ []))) ≡ true
    by true e = refl
    by false e = other (is_special b) e

inner_behind : (led : Bool) (text : List ℕ) → are_inner (escaped (plain_behind led text)) ≡ true
inner_behind led [] = refl
inner_behind led (b ∷ bs) =
    inner-append (escaped_byte (plain_byte led b)) (escaped (plain_behind (b == LEAD) bs)) (inner_byte (plain_byte led b) (no_return led b)) (inner_behind (b == LEAD) bs)

inner_value : (text : List ℕ) → are_inner (value_text text) ≡ true
inner_value text = inner_behind false text

inner_others : (texts : List (List ℕ)) → are_inner (values_behind texts) ≡ true
inner_others [] = refl
inner_others (text ∷ texts) = inner-append (value_text text) (values_behind texts) (inner_value text) (inner_others texts)

inner_values : (text : List ℕ) (texts : List (List ℕ)) → are_inner (values_text (text ∷ texts)) ≡ true
inner_values text texts = inner-append (value_text text) (values_behind texts) (inner_value text) (inner_others texts)

-- ---- so do days and times

inner_digit : (n : ℕ) (rest : List ℕ) → are_inner rest ≡ true → are_inner (digit n ∷ rest) ≡ true
inner_digit n rest e =
    let return : (digit n == 13) ≡ false = grind (arith, nat_tests) in
    let feed : (digit n == 10) ≡ false = grind (arith, nat_tests) in
    one_inner (digit n) rest return feed e

inner_two : (n : ℕ) (rest : List ℕ) → are_inner rest ≡ true → are_inner (two n ++ rest) ≡ true
inner_two n rest e = inner_digit (n / 10) (digit n ∷ rest) (inner_digit n rest e)

inner_date : (date : Date) (rest : List ℕ) → are_inner rest ≡ true → are_inner (date_text date ++ rest) ≡ true
inner_date date rest e =
    inner_two (date.year / 100) (two date.year ++ (two date.month ++ (two date.day ++ rest)))
    (inner_two date.year (two date.month ++ (two date.day ++ rest))
    (inner_two date.month (two date.day ++ rest) (inner_two date.day rest e)))

inner_moment : (date : Date) (time : Time) (rest : List ℕ) → are_inner rest ≡ true → are_inner (moment_text date time ++ rest) ≡ true
inner_moment date time rest e =
    inner_date date (84 ∷ (two time.hour ++ (two time.minute ++ (48 ∷ 48 ∷ rest))))
    (inner_two time.hour (two time.minute ++ (48 ∷ 48 ∷ rest)) (inner_two time.minute (48 ∷ 48 ∷ rest) e))

-- ---- so do numbers

inner_glyph : (n : ℕ) (rest : List ℕ) → are_inner rest ≡ true → are_inner (digit_glyph false (n % 10) ∷ rest) ≡ true
inner_glyph n rest e =
    let return : (digit_glyph false (n % 10) == 13) ≡ false = grind (arith, nat_tests) in
    let feed : (digit_glyph false (n % 10) == 10) ≡ false = grind (arith, nat_tests) in
    one_inner (digit_glyph false (n % 10)) rest return feed e

onto_by : (t : Bool) (more longer : List ℕ) → are_inner more ≡ true → are_inner longer ≡ true → are_inner (cond t more longer) ≡ true
onto_by true more longer e f = e
onto_by false more longer e f = f

inner_onto : (k n : ℕ) (rest : List ℕ) → are_inner rest ≡ true → are_inner (digits_onto k 10 false n rest) ≡ true
inner_onto zero n rest e = e
inner_onto (suc k) n rest e =
    let more = digit_glyph false (n % 10) ∷ rest in
    onto_by (n / 10 == 0) more (digits_onto k 10 false (n / 10) more) (inner_glyph n rest e) (inner_onto k (n / 10) more (inner_glyph n rest e))

inner_decimal : (n : ℕ) → are_inner (decimal n) ≡ true
unfolding digits
inner_decimal n = inner_onto 64 n [] refl

-- ---- lines

content-append : (a b : List (List ℕ)) → are_content a ≡ true → are_content b ≡ true → are_content (a ++ b) ≡ true
content-append [] b e f = f
content-append (x ∷ xs) b e f = let own = and_parts (is_content x) (are_content xs) e in and_from _ _ own.0 (content-append xs b own.1 f)

content_stamp : (date : Date) (time : Time) → is_content (stamp_line date time) ≡ true
content_stamp date time = inner_moment date time (90 ∷ []) refl

content_begins : (when : When) → is_content (when_line (codes "DTSTART") when) ≡ true
content_begins (Day date) = inner_date date [] refl
content_begins (Days date behind) = inner_date date [] refl
content_begins (At date time) = inner_moment date time [] refl
content_begins (Between date start last end) = inner_moment date start [] refl

content_due : (when : When) → is_content (when_line (codes "DUE") when) ≡ true
content_due (Day date) = inner_date date [] refl
content_due (Days date behind) = inner_date date [] refl
content_due (At date time) = inner_moment date time [] refl
content_due (Between date start last end) = inner_moment date start [] refl

content_again : (when : When) → is_content (when_line (codes "RDATE") when) ≡ true
content_again (Day date) = inner_date date [] refl
content_again (Days date behind) = inner_date date [] refl
content_again (At date time) = inner_moment date time [] refl
content_again (Between date start last end) = inner_moment date start [] refl

content_end : (when : When) → are_content (end_lines when) ≡ true
content_end (Day date) = refl
content_end (Days date behind) = and_from _ _ (inner_date behind [] refl) refl
content_end (At date time) = refl
content_end (Between date start last end) = and_from _ _ (inner_moment last end [] refl) refl

inner_frequency : (frequency : Frequency) (rest : List ℕ) → are_inner rest ≡ true → are_inner (frequency_text frequency ++ rest) ≡ true
inner_frequency Daily rest e = e
inner_frequency Weekly rest e = e
inner_frequency Monthly rest e = e
inner_frequency Yearly rest e = e

content_rule : (rule : Option Rule) → are_content (rule_lines rule) ≡ true
content_rule None = refl
content_rule (Some rule) = and_from _ _ (inner_frequency rule.frequency (codes ";INTERVAL=" ++ decimal rule.interval) (inner_decimal rule.interval)) refl

content_times : (kind : Kind) → are_content (times_lines kind) ≡ true
content_times (Event when rule status) =
    and_from _ _ (content_begins when) (content-append (end_lines when) (rule_lines rule) (content_end when) (content_rule rule))
content_times (Task due priority) = and_from _ _ (content_due due) refl

content_dates : (when : When) (dates : List Date) → are_content (dates_lines when dates) ≡ true
content_dates when [] = refl
content_dates when (date ∷ dates) = and_from _ _ (content_again (on_date date when)) (content_dates when dates)

content_more : (kind : Kind) (dates : List Date) → are_content (event_dates kind dates) ≡ true
content_more (Event when rule status) dates = content_dates when dates
content_more (Task due priority) dates = refl

content_categories : (texts : List (List ℕ)) → are_content (categories_lines texts) ≡ true
content_categories [] = refl
content_categories (text ∷ texts) = and_from _ _ (inner_values text texts) refl

content_location : (text : List ℕ) → are_content (some_text (codes "LOCATION") text) ≡ true
content_location [] = refl
content_location (byte ∷ bytes) = and_from _ _ (inner_value (byte ∷ bytes)) refl

content_description : (text : List ℕ) → are_content (some_text (codes "DESCRIPTION") text) ≡ true
content_description [] = refl
content_description (byte ∷ bytes) = and_from _ _ (inner_value (byte ∷ bytes)) refl

content_words : (words : WordsText) → are_content (words_lines words) ≡ true
content_words words =
    let place = some_text (codes "LOCATION") words.location in
    let told = some_text (codes "DESCRIPTION") words.description in
    and_from _ _ (inner_value words.summary)
    (content-append (categories_lines words.categories) (place ++ told) (content_categories words.categories)
    (content-append place told (content_location words.location) (content_description words.description)))

content_status : (status : Status) → is_content (status_line status) ≡ true
content_status Confirmed = refl
content_status Cancelled = refl

content_priority : (priority : Option ℕ) → are_content (priority_lines priority) ≡ true
content_priority None = refl
content_priority (Some number) = and_from _ _ (inner_digit number [] refl) refl

content_state : (kind : Kind) → are_content (state_lines kind) ≡ true
content_state (Event when rule status) = and_from _ _ (content_status status) refl
content_state (Task due priority) = content-append (priority_lines priority) (codes "STATUS:NEEDS-ACTION" ∷ []) (content_priority priority) refl

content_begin : (kind : Kind) → is_content (begin_line kind) ≡ true
content_begin (Event when rule status) = refl
content_begin (Task due priority) = refl

content_finish : (kind : Kind) → is_content (end_line kind) ≡ true
content_finish (Event when rule status) = refl
content_finish (Task due priority) = refl

content_trigger : (kind : Kind) (minutes : ℕ) → is_content (trigger_line kind minutes) ≡ true
content_trigger (Event when rule status) minutes = inner-append (decimal minutes) (77 ∷ []) (inner_decimal minutes) refl
content_trigger (Task due priority) minutes = inner-append (decimal minutes) (77 ∷ []) (inner_decimal minutes) refl

content_alarm : (kind : Kind) (summary : List ℕ) (alarm : Option ℕ) → are_content (wanted_alarm kind summary alarm) ≡ true
content_alarm kind summary None = refl
content_alarm kind summary (Some minutes) = and_from _ _ (inner_value summary) (and_from _ _ (content_trigger kind minutes) refl)

content_shown : (stamp uid : List ℕ) (shown : ShownText) → is_content stamp ≡ true → are_content (lines_of_shown stamp uid shown) ≡ true
content_shown stamp uid shown e =
    let kind = shown.kind in
    let alarm = wanted_alarm kind shown.words.summary shown.alarm in
    let last = alarm ++ end_line kind ∷ [] in
    let state = state_lines kind ++ last in
    let words = words_lines shown.words ++ state in
    let more = event_dates kind shown.more ++ words in
    and_from _ _ (content_begin kind)
    (and_from _ _ (inner_value uid)
    (and_from _ _ e
    (content-append (times_lines kind) more (content_times kind)
    (content-append (event_dates kind shown.more) words (content_more kind shown.more)
    (content-append (words_lines shown.words) state (content_words shown.words)
    (content-append (state_lines kind) last (content_state kind)
    (content-append alarm (end_line kind ∷ []) (content_alarm kind shown.words.summary shown.alarm)
    (and_from _ _ (content_finish kind) refl))))))))

content_if : (stamp uid : List ℕ) (shown : Option ShownText) → is_content stamp ≡ true → are_content (lines_if stamp uid shown) ≡ true
content_if stamp uid None e = refl
content_if stamp uid (Some shown) e = content_shown stamp uid shown e

content_component : (stamp uid : List ℕ) (component : ComponentText) → is_content stamp ≡ true → are_content (component_lines stamp uid component) ≡ true
content_component stamp uid component e = content_if stamp uid component.shown e

content_components : (stamp : List ℕ) (seen : List (List ℕ)) (components : List ComponentText) → is_content stamp ≡ true → are_content (components_lines stamp seen components) ≡ true
content_components stamp seen [] e = refl
content_components stamp seen (c ∷ cs) e =
    let uid = uid_text c.key (times_in c.key seen + 1) in
    content-append (component_lines stamp uid c) (components_lines stamp (c.key ∷ seen) cs) (content_component stamp uid c e) (content_components stamp (c.key ∷ seen) cs e)

content_calendar : (date : Date) (time : Time) (components : List ComponentText) → are_content (lines_of date time components) ≡ true
content_calendar date time components =
    content-append (components_lines (stamp_line date time) [] components) (codes "END:VCALENDAR" ∷ []) (content_components (stamp_line date time) [] components (content_stamp date time)) refl

pub lines_read_back : LinesReadBack
lines_read_back date time components = lines_back (lines_of date time components) (content_calendar date time components)

pub lines_are_short : LinesAreShort
lines_are_short date time components = lines_short (lines_of date time components) (content_calendar date time components)
