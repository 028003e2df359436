-- What tests/reading.py shows of definitions into which it folds others. Made by it: `tests/reading.py fold`.
use Rattle.org_agenda.specs.Days.{by_start, due_day, is_due, occurs_later, role_rows}
use Rattle.org_agenda.specs.Found.{in_files}
use Rattle.org_agenda.specs.Lists.{Listing, Matching, Ranked, heading_rows, in_order, todo_listing}
use Rattle.org_agenda.specs.declared.days.TheConstants.{STARTS}
use Rattle.org_agenda.specs.declared.row.Row.{Row}
use Rattle.org_agenda.specs.declared.row.RowKind.{RowKind}
use Rattle.org_agenda.specs.declared.row.RowKind.TheVariants.{InRange, LateDeadline, LateSchedule, Listed, OnDay, OnDeadline, OnSchedule, Warning}
use Rattle.org_agenda.specs.declared.source.HeadingStamp.{HeadingStamp}
use Rattle.org_base.specs.Codes.{code_of, entry_of, name_of}
use Rattle.org_base.specs.Properties.{Given, Property, folded, with_all, with_given, with_value}
use Rattle.org_base.specs.Spans.{bytes_in}
use Rattle.org_base.specs.Words.{first_word, is_gap, is_space, same_word, trim_start, trimmed}
use Rattle.org_base.specs.declared.code.Code.TheVariants.{Hours, Late, Memory, Session, Unknown}
use Rattle.org_base.specs.declared.fault.Fault.{Fault}
use Rattle.org_base.specs.declared.fault.Fault.TheVariants.{Plain}
use Rattle.org_base.specs.declared.profile.Profile.{Profile as Profile_of_org_base_Profile}
use Rattle.org_base.specs.declared.profile.Profile.TheVariants.{One, Two}
use Rattle.org_base.specs.declared.span.Span.{Span}
use Rattle.org_cal.specs.Faults.{date_fault}
use Rattle.org_cal.specs.Minutes.{minute_at, minute_of}
use Rattle.org_cal.specs.Parts.{month_day_of, month_of, weekday_of, year_of}
use Rattle.org_cal.specs.Texts.{date_text, day_name, two}
use Rattle.org_cal.specs.Weeks.{iso_week}
use Rattle.org_cal.specs.declared.day.TheConstants.{LAST_DAY}
use Rattle.org_cal.specs.declared.moment.Moment.{Moment}
use Rattle.org_class.specs.Blocks.{body_classes}
use Rattle.org_class.specs.Classes.{front_classes, lines_of_setting, section_classes}
use Rattle.org_class.specs.Drawers.{classes_below, closes_drawer, drawer_classes}
use Rattle.org_class.specs.LineClass.{is_comment, is_setting, line_class}
use Rattle.org_class.specs.Sections.{sections}
use Rattle.org_class.specs.declared.class.Class.{Class}
use Rattle.org_class.specs.declared.class.Class.TheVariants.{Clock as Clock_of_org_class_TheVariants, Comment, DrawerOpen, Heading, Plain as Plain_of_org_class_TheVariants, Setting}
use Rattle.org_clocktable.specs.declared.row.Of.{Of}
use Rattle.org_clocktable.specs.declared.row.Of.TheVariants.{All as All_of_org_clocktable_TheVariants, File, Heading as Heading_of_org_clocktable_TheVariants}
use Rattle.org_complete.specs.Chained.{and_then}
use Rattle.org_complete.specs.Completion.{completed}
use Rattle.org_drawer.specs.Node.{given, is_node}
use Rattle.org_drawer.specs.Planning.{is_same, last_of}
use Rattle.org_drawer.specs.declared.clock.ClockLine.{ClockLine}
use Rattle.org_engine.specs.KeywordLines.{keyword_lines}
use Rattle.org_engine.specs.Outlines.{scopes_of}
use Rattle.org_engine.specs.Places.{days_shown, heading_place, line_place, list_in, of_place, table_in, version_words, view_in}
use Rattle.org_engine.specs.Questions.{AsksMatch, AsksTable, asked_agenda}
use Rattle.org_engine.specs.Step.{AddFile, Ask, At as At_of_org_engine_Step, ClockTable, Command as Command_of_org_engine_Step, Complete as Complete_of_org_engine_Step, DayAgenda, DropFile, EditFile, Inherit as Inherit_of_org_engine_Step, KeywordsOf, MatchList, Outcome, PinWorld, Query, Refused as Refused_of_org_engine_Step, Reply as Reply_of_org_engine_Step, SetProfile, Shown, TextOf, TodoList, Unpin as Unpin_of_org_engine_Step, Unread, Version as Version_of_org_engine_Step, added, changes, edited, file_named, is_session, over_file, pinned_by, put, refused, render_view, says, settings_named, shown_if, tells, text_seen, unpinned_by, without, world_for, world_of}
use Rattle.org_engine.specs.Views.{world_over}
use Rattle.org_engine.specs.World.{FileView, State, WorldView}
use Rattle.org_engine.specs.declared.question.Form.{Form}
use Rattle.org_engine.specs.declared.question.Form.TheVariants.{Places, Text as Text_of_org_engine_TheVariants}
use Rattle.org_entry.specs.Entry.{active_at, if_active}
use Rattle.org_entry.specs.declared.entry.Entry.{Entry}
use Rattle.org_head.specs.Cookie.{cookie_value}
use Rattle.org_head.specs.Head.{head_of}
use Rattle.org_index.specs.Delays.{days_in, delay_or}
use Rattle.org_index.specs.declared.delays.TheConstants.{WARNING_DAYS}
use Rattle.org_inherit.specs.Category.{stem}
use Rattle.org_inherit.specs.Scope.{Scope}
use Rattle.org_inherit.specs.Tags.{own_tags_at, tags_text, with_tag}
use Rattle.org_inherit.specs.Values.{file_value}
use Rattle.org_layout.specs.Columns.{padded}
use Rattle.org_layout.specs.Days.{label_text, times_text as times_text_of_org_layout_Days}
use Rattle.org_layout.specs.Lines.{at_entry, entry_line, joined, untagged_text}
use Rattle.org_layout.specs.Shown.{columns_shown, line_text, row_line, row_text}
use Rattle.org_layout.specs.Tables.{name_text, sum_column}
use Rattle.org_layout.specs.declared.shown.Line.{Line}
use Rattle.org_layout.specs.declared.shown.Line.TheVariants.{Day, Row as Row_of_org_layout_TheVariants, Step, Table}
use Rattle.org_layout.specs.declared.shown.ShownRow.{ShownRow}
use Rattle.org_lines.specs.Cuts.{lines}
use Rattle.org_outline.specs.Levels.{levels}
use Rattle.org_outline.specs.Places.{greatest_below}
use Rattle.org_outline.specs.Tree.{ancestors, chain, is_smaller}
use Rattle.org_repeat.specs.Decided.{begins_on, first_passing, occurs, range_start}
use Rattle.org_repeat.specs.Shift.{shift_of}
use Rattle.org_repeat.specs.Shifted.{is_hour, lacks_time}
use Rattle.org_settings.specs.Keywords.{Keyword, add_line, add_sequence, is_named, keyword_done, keyword_place, with_new, without_parens}
use Rattle.org_settings.specs.Settings.{FileSettings, settings_of}
use Rattle.org_stamp.specs.Inner.{stamp_of_words, times_at}
use Rattle.org_stamp.specs.Line.{stamps_from}
use Rattle.org_stamp.specs.Pair.{clock_stamp}
use Rattle.org_stamp.specs.Print.{delay_text, last_text, repeater_text, single_text, times_text}
use Rattle.org_stamp.specs.Read.{same_bool}
use Rattle.org_stamp.specs.Stamp.{close_of}
use Rattle.org_stamp.specs.Word.{is_word}
use Rattle.org_stamp.specs.declared.pair.Pair.{Pair}
use Rattle.org_stamp.specs.declared.pair.PlanningKeyword.{PlanningKeyword}
use Rattle.org_stamp.specs.declared.stamp.Found.{Found}
use Rattle.org_stamp.specs.declared.stamp.Stamp.{Stamp}
use Rattle.org_wire.specs.Replies.{extra_of}
use Rattle.org_wire.specs.Run.{MeansView}
use Rattle.org_wire.specs.Spelled.{AreKeywords, IsApart, IsAt, IsName, IsNumber, IsSeen, IsView, IsViewWith, IsWord, file_parts, keyword_parts, profile_word, seen_parts, spaced}
use Rattle.org_wire.specs.declared.command.Command.{Command}
use Rattle.org_wire.specs.declared.command.Command.TheVariants.{Add, Agenda, At, Clock, Complete, Drop, Edit, Inherit, Keywords, Match, Pin, Profile, Text, Todo, Unpin, Version}
use Rattle.org_wire.specs.declared.reply.Reply.{Reply}
use Rattle.org_wire.specs.declared.reply.Reply.TheVariants.{Refused}
use Rattle.regex.specs.Patterns.{default_config, find_str}
use Rattle.regex.specs.Strings.{IsDefaultFailure}
use Rattle.regex.specs.declared.error.Error.{Error}
use Rattle.regex.specs.declared.error.Error.TheVariants.{OutOfMemory}
use Rattle.regex_syntax.specs.Grammar.{read}
use Rattle.std.specs.Char.{is_ascii_digit}
use Rattle.std.specs.List.{All, after_last, filter_map, flat_map, list_all, list_any, prefix_len, slice_split, starts_with}
use Rattle.std.specs.Option.{option_map, option_map_or, option_or, option_to_list, unwrap_or as unwrap_or_of_std_Option}
use Rattle.std.specs.Prelude.{Bool, Contains, Err, IfSome, List, None, Ok, Option, Result, Some, [], bytes_eq, codes, decimal, drop, encode_utf8_all, false, filter, fold, get_or, if◌then◌else◌, is_none, is_some, length, map, max, min, nat_eq, nat_le, nat_lt, not, ok_or, position, reverse, slice_index, suc, take_while, true, unwrap_or, zero, ℕ, ◌%◌, ◌&&◌, ◌*◌, ◌++◌, ◌+◌, ◌-◌, ◌/◌, ◌<◌, ◌==◌, ◌||◌, ◌↔◌, ◌∷◌, ◌≡◌, ◌≢◌, ◌≤◌, ◌⊎◌}
use Rattle.std.specs.Str.{IsUtf8, is_utf8}
use Rattle.ucd_category.specs.GeneralCategory.{general_category, general_category_number}
use Rattle.unicode.specs.Binary.{is_alphabetic}

abbrev pub IsLineOf_shown : Bool → Command → List ℕ → Type 0
IsLineOf_shown second (Add name bytes) line = ⊥
IsLineOf_shown second (Drop name) line = (line ≡ spaced (codes "drop" ∷ (name ∷ []))) × IsName name
IsLineOf_shown second (Edit seen at del bytes) line = ⊥
IsLineOf_shown second (Complete seen place keyword) line = (line ≡ spaced (codes "complete" ∷ (seen_parts seen ++ (decimal place ∷ (keyword ∷ []))))) × IsSeen seen × IsNumber place × IsWord keyword
IsLineOf_shown second (Inherit names) line = (line ≡ spaced (codes "inherit" ∷ names)) × (All (IsApart 32) names × IsUtf8 (spaced names))
IsLineOf_shown second (At moment) line = IsAt moment line
IsLineOf_shown second (Profile profile) line = line ≡ spaced (codes "profile" ∷ (profile_word profile ∷ []))
IsLineOf_shown second (Pin session) line = (line ≡ spaced (codes "pin" ∷ (decimal session ∷ []))) × IsNumber session
IsLineOf_shown second (Unpin session) line = (line ≡ spaced (codes "unpin" ∷ (decimal session ∷ []))) × IsNumber session
IsLineOf_shown second (Text name) line = (line ≡ spaced (codes "text" ∷ (name ∷ []))) × IsName name
IsLineOf_shown second (Keywords name) line = (line ≡ spaced (codes "keywords" ∷ (name ∷ []))) × IsName name × (second ≡ true)
IsLineOf_shown second Version line = (line ≡ codes "version") × (second ≡ true)
IsLineOf_shown second (Todo request file keywords) line = IsView second request (file_parts file ++ (codes "todo" ∷ keyword_parts keywords)) line × AreKeywords keywords × IfSome file IsName
IsLineOf_shown second (Match request file text) line = IsViewWith second request (file_parts file) (codes "match") text line × IfSome file IsName
IsLineOf_shown second (Agenda request date days) line = IsView second request (codes "agenda" ∷ (date ∷ (decimal days ∷ []))) line × IsWord date × IsNumber days
IsLineOf_shown second (Clock request text) line = IsViewWith second request [] (codes "clock") text line

abbrev pub is_file_name_shown : List ℕ → Bool
is_file_name_shown name = nat_le 1 (length name) && nat_le (length name) 255 && list_all (λ b. nat_le 33 b && not (b == 127)) name

abbrev pub fault_bytes_shown : Fault → List ℕ
fault_bytes_shown fault = let code = code_of fault in (codes "err " ++ (decimal ((entry_of code).0) ++ codes " ")) ++ (name_of code ++ (extra_of fault ++ codes "\n"))

abbrev pub out_of_memory_shown : Reply
out_of_memory_shown = Refused (Plain Memory)

abbrev pub Means_shown : Command → State → Command_of_org_engine_Step → Type 0
Means_shown (Add name text) s said = said ≡ AddFile name text
Means_shown (Drop name) s said = said ≡ DropFile name
Means_shown (Edit seen at del ins) s said = said ≡ EditFile seen.session seen.name seen.serial at del ins
Means_shown (Complete seen line keyword) s said = said ≡ Complete_of_org_engine_Step seen.session seen.name seen.serial line keyword
Means_shown (Inherit names) s said = said ≡ Inherit_of_org_engine_Step names
Means_shown (At moment) s said = said ≡ option_map_or At_of_org_engine_Step moment (Ask (Unread date_fault) Text_of_org_engine_TheVariants None)
Means_shown (Profile profile) s said = said ≡ SetProfile profile
Means_shown (Pin session) s said = said ≡ PinWorld session
Means_shown (Unpin session) s said = said ≡ Unpin_of_org_engine_Step session
Means_shown (Text name) s said = said ≡ TextOf name
Means_shown (Keywords name) s said = said ≡ KeywordsOf name
Means_shown Version s said = said ≡ Version_of_org_engine_Step
Means_shown (Todo request file words) s said = MeansView (λ today question. question ≡ TodoList file words) request s said
Means_shown (Match request file text) s said = MeansView (λ today question. AsksMatch file text question) request s said
Means_shown (Agenda request date days) s said = MeansView (λ today question. question ≡ asked_agenda date days) request s said
Means_shown (Clock request text) s said = MeansView (λ today question. AsksTable text today question) request s said

abbrev pub step_shown : Command_of_org_engine_Step → State → Outcome
step_shown (AddFile name text) s = changes s (added name text (s.serial + 1) s.world.files)
step_shown (DropFile name) s = changes s (if is_some (file_named name s.world.files) then Ok (without name s.world.files) else Err (Plain Unknown))
step_shown (EditFile session name serial at del ins) s = changes s (put name s (edited at del ins (text_seen session name serial s.world.files)))
step_shown (Complete_of_org_engine_Step session name serial line keyword) s = changes s (put name s (and_then (λ text. completed text line keyword s.world.moment) (text_seen session name serial s.world.files)))
step_shown (Inherit_of_org_engine_Step names) s = tells (record s { world = record s.world { inherited = names } })
step_shown (At_of_org_engine_Step moment) s = tells (record s { world = record s.world { moment = moment } })
step_shown (SetProfile p) s = if (length s.world.files == 0) && (length s.pins == 0) then tells (record s { world = record s.world { profile = p } }) else refused (Plain Late) s
step_shown (PinWorld session) s = if is_session session then pinned_by session s (world_of session s.pins) else refused (Plain Session) s
step_shown (Unpin_of_org_engine_Step session) s = if is_session session then unpinned_by session s (world_of session s.pins) else refused (Plain Session) s
step_shown (TextOf name) s = says (shown_if (option_map (λ (file : FileView). file.text) (file_named name s.world.files))) s
step_shown (KeywordsOf name) s = says (shown_if (option_map (λ (settings : FileSettings). keyword_lines None settings.keywords) (settings_named name s.world.files))) s
step_shown Version_of_org_engine_Step s = says (Shown (codes "orgviews 0.4.0 2\n")) s
step_shown (Ask question form session) s = says (elim (world_for session s) [ Err f ↦ Refused_of_org_engine_Step f | Ok world ↦ render_view form question world ]) s

abbrev pub render_view_shown : Form → Query → WorldView → Reply_of_org_engine_Step
render_view_shown form (TodoList file words) world = over_file file world (Shown (list_in form (todo_listing words) (world_over file world)))
render_view_shown form (MatchList file (Ok expr)) world = over_file file world (Shown (list_in form (Matching expr world.moment) (world_over file world)))
render_view_shown form (MatchList file (Err f)) world = over_file file world (Refused_of_org_engine_Step f)
render_view_shown form (DayAgenda first count) world = Shown (view_in form false (days_shown world.profile (scopes_of world) world.moment.day first count) world)
render_view_shown form (ClockTable table) world = over_file table.file world (Shown (table_in form table (world_over table.file world)))
render_view_shown form (Unread f) world = Refused_of_org_engine_Step f

abbrev pub AreReadable_shown : List (List ℕ) → Type 0
AreReadable_shown ps = All (λ pattern. is_some (read default_config pattern) ≡ true) ps

abbrev pub file_settings_shown : List ℕ → FileSettings
file_settings_shown text = settings_of (flat_map (λ s. lines_of_setting (lines s) (section_classes s)) (sections text))

abbrev pub list_in_shown : Form → Listing → WorldView → List ℕ
list_in_shown form listing world = view_in form false (map (row_line None) (in_order (in_files (heading_rows listing) 0 (scopes_of world)))) world

abbrev pub IsPatternRefused_shown : List (List ℕ) → Type 0
IsPatternRefused_shown ps = (p : List ℕ) × Contains ps p × ((e : Error) × (e ≢ OutOfMemory) × IsDefaultFailure (encode_utf8_all p) e)

abbrev pub view_in_shown : Form → Bool → List Line → WorldView → List ℕ
view_in_shown Text_of_org_engine_TheVariants with_effort lines world = flat_map (line_text with_effort (scopes_of world)) lines
view_in_shown Places with_effort lines world = flat_map (line_place world.files) lines

abbrev pub keywords_shown : List (List ℕ) → List Keyword
keywords_shown lines = let named = fold add_line [] lines in if length named == 0 then add_sequence [] (codes "TODO" ∷ codes "DONE" ∷ []) else named

abbrev pub day_rows_shown : Profile_of_org_base_Profile → List HeadingStamp → ℕ → ℕ → List Row
day_rows_shown p sources today day = by_start (in_order (flat_map (λ (s : HeadingStamp). role_rows p s.role s today day) sources))

abbrev pub drawer_of_shown : List (List ℕ) → List Property
drawer_of_shown lines = with_all [] (filter_map (λ line. if is_node line then Some (given (first_word line) (trim_start line)) else None) lines)

abbrev pub stamps_of_shown : FileSettings → ℕ → Class → List ℕ → List Found
stamps_of_shown settings at Heading bytes = let title = (head_of settings bytes).title in active_at (at + title.at) (bytes_in bytes title)
stamps_of_shown settings at Setting bytes = active_at at bytes
stamps_of_shown settings at Plain_of_org_class_TheVariants bytes = active_at at bytes
stamps_of_shown settings at _ bytes = []

abbrev pub clocks_of_shown : Class → List ℕ → List ClockLine
clocks_of_shown Clock_of_org_class_TheVariants bytes = option_to_list (option_map (λ s. record { from = minute_at (s.day, s.time); to = option_map minute_at s.last }) (clock_stamp bytes))
clocks_of_shown _ bytes = []

abbrev pub has_key_shown : List ℕ → List ℕ → Bool
has_key_shown key line = same_word (drop 2 (take_while (λ b. not (b == 58)) (trim_start line))) key

abbrev pub setting_value_shown : List ℕ → List ℕ
setting_value_shown line = trimmed (drop (prefix_len (λ b. not (b == 58)) (trim_start line) + 1) (trim_start line))

abbrev pub with_given_shown : List Property → Given → List Property
with_given_shown [] given = record { name = folded given.name; value = (record { text = given.value; has_plain = not given.appends }) } ∷ []
with_given_shown (p ∷ ps) given = if bytes_eq (folded given.name) p.name then record { name = p.name; value = with_value p.value given } ∷ ps else p ∷ with_given ps given

abbrev pub line_text_shown : Bool → List Scope → Line → List ℕ
line_text_shown with_effort scopes (Day day) = date_text day ++ codes " " ++ day_name (weekday_of day) ++ codes " W" ++ two (iso_week day) ++ codes "\n"
line_text_shown with_effort scopes (Step first last) = date_text first ++ codes " " ++ date_text last ++ codes "\n"
line_text_shown with_effort scopes (Row_of_org_layout_TheVariants shown) = row_text scopes shown
line_text_shown with_effort scopes (Table row) = sum_column row.clock ++ (if with_effort then sum_column row.effort else []) ++ name_text scopes row.of ++ codes "\n"

abbrev pub line_place_shown : List FileView → Line → List ℕ
line_place_shown files (Row_of_org_layout_TheVariants shown) = heading_place (option_map (λ (day : ℕ). shown.row.stamp_at) shown.day) files shown.row.file shown.row.heading
line_place_shown files (Table row) = of_place files row.of
line_place_shown files _ = codes "\n"

abbrev pub stamp_text_shown : Stamp → List ℕ
stamp_text_shown s = single_text s.active s.day (times_text s.time s.end_time ++ (repeater_text s.repeater ++ delay_text s.delay)) ++ last_text s.active s.last

abbrev pub active_at_shown : ℕ → List ℕ → List Found
active_at_shown at bytes = flat_map (if_active at) (stamps_from bytes 0 0)

abbrev pub front_classes_shown : List (List ℕ) → List Class
front_classes_shown [] = []
front_classes_shown (l ∷ ls) = if (is_comment l || list_all is_gap l) then line_class l ∷ front_classes ls else classes_below (l ∷ ls)

abbrev pub row_text_shown : List Scope → ShownRow → List ℕ
row_text_shown scopes shown = at_entry (λ scope. entry_line (columns_shown shown.day shown.row) scope shown.row.heading) scopes shown.row.file shown.row.heading

abbrev pub of_place_shown : List FileView → Of → List ℕ
of_place_shown files All_of_org_clocktable_TheVariants = codes "\n"
of_place_shown files (File file) = get_or (map (λ file. version_words file ++ codes " - - -\n") files) file []
of_place_shown files (Heading_of_org_clocktable_TheVariants file heading level) = heading_place None files file heading

abbrev pub is_finished_shown : FileSettings → Option (List ℕ) → Bool
is_finished_shown settings found = option_map_or (λ word. option_map_or (keyword_done settings.keywords) (keyword_place settings.keywords word) false) found false

abbrev pub started_shown : Row → Ranked
started_shown row = record { priority = unwrap_or row.start (STARTS - 1); row = row }

abbrev pub minutes_in_shown : ClockLine → ℕ × ℕ → ℕ
minutes_in_shown clock (first, last) = option_map_or (λ to. min to (minute_of (last + 1) 0) - max clock.from (minute_of first 0)) clock.to 0

abbrev pub is_tag_char_shown : ℕ → Bool
is_tag_char_shown c = (is_alphabetic c || general_category_number (general_category c) == 8) || (c == 95 || (c == 64 || (c == 35 || c == 37)))

abbrev pub last_of_shown : PlanningKeyword → List Pair → Option (Stamp × Span)
last_of_shown word [] = None
last_of_shown word (p ∷ ps) = option_or (last_of word ps) (if is_same word p.word then Some (p.stamp, record { at = p.at; len = p.len }) else None)

abbrev pub classes_below_shown : List (List ℕ) → List Class
classes_below_shown [] = []
classes_below_shown (l ∷ ls) = if same_word (trimmed l) (codes ":PROPERTIES:") && closes_drawer ls then DrawerOpen ∷ drawer_classes ls else body_classes None (l ∷ ls)

abbrev pub line_class_shown : List ℕ → Class
line_class_shown l = if is_comment l then Comment else (if is_setting l then Setting else (if is_some (clock_stamp l) then Clock_of_org_class_TheVariants else Plain_of_org_class_TheVariants))

abbrev pub add_words_shown : Bool → ℕ → List Keyword → List (List ℕ) → List Keyword
add_words_shown done first ks ws = fold (λ ks w. if is_named w then with_new ks (record { word = without_parens w; done = done; first = first }) else ks) ks ws

abbrev pub date_text_shown : ℕ → List ℕ
date_text_shown day = (two (year_of day / 100) ++ two (year_of day % 100)) ++ 45 ∷ two (month_of day) ++ 45 ∷ two (month_day_of day)

abbrev pub columns_shown_shown : Option ℕ → Row → List ℕ
columns_shown_shown day row = option_map_or (λ (own : ℕ). padded (times_text_of_org_layout_Days row.start row.end) 12 ++ label_text row.kind row.number row.of) day []

abbrev pub chain_shown : List (Option ℕ) → ℕ → ℕ → List ℕ
chain_shown ls zero i = []
chain_shown ls (suc n) i = elim (greatest_below (λ j. is_smaller (get_or ls j None) (get_or ls i None)) i) [ None ↦ [] | Some j ↦ j ∷ chain ls n j ]

abbrev pub all_tags_shown : Scope → ℕ → List (List ℕ)
all_tags_shown scope i = fold with_tag [] (scope.settings.file_tags ++ flat_map (own_tags_at scope.entries) (reverse (ancestors (levels scope.entries) i) ++ i ∷ []))

abbrev pub single_text_shown : Bool → ℕ → List ℕ → List ℕ
single_text_shown active day tail = (if active then 60 else 91) ∷ ((date_text day ++ 32 ∷ day_name (weekday_of day)) ++ (tail ++ close_of active ∷ []))

abbrev pub lacks_time_shown : Stamp → Bool
lacks_time_shown s = option_map_or (λ r. is_hour r.unit && (is_none s.time || is_some s.end_time)) s.repeater false

abbrev pub shift_answer_shown : Stamp → Moment → Result Stamp Fault
shift_answer_shown s now = if lacks_time s then Err (Plain Hours) else ok_or (shift_of s now) date_fault

abbrev pub is_setting_shown : List ℕ → Bool
is_setting_shown l = starts_with nat_eq (first_word l) (codes "#+") && not (slice_index (first_word l) 2 == 58) && list_any (λ b. b == 58) (drop 2 (first_word l))

abbrev pub is_shown_shown : Profile_of_org_base_Profile → RowKind → HeadingStamp → ℕ → ℕ → Bool
is_shown_shown p Listed s today day = false
is_shown_shown p OnDay s today day = is_none s.stamp.last && occurs p s.stamp day
is_shown_shown p InRange s today day = is_some (range_start p s.stamp day)
is_shown_shown p OnSchedule s today day = option_map_or (λ d. occurs_later p d.first_only s.stamp (days_in d.unit d.n) day) s.stamp.delay (occurs p s.stamp day)
is_shown_shown p LateSchedule s today day = is_due s today day && nat_lt (s.stamp.day + delay_or 0 s.stamp.delay) today
is_shown_shown p OnDeadline s today day = occurs p s.stamp day
is_shown_shown p Warning s today day = is_due s today day && nat_le (due_day p s.stamp today) (today + delay_or WARNING_DAYS s.stamp.delay) && nat_lt today (due_day p s.stamp today)
is_shown_shown p LateDeadline s today day = is_due s today day && nat_lt s.stamp.day today

abbrev pub entry_text_shown : Entry → List (List ℕ) → List ℕ
entry_text_shown e tags = option_map_or (λ head. joined (untagged_text e.text head) (tags_text tags)) e.head []

abbrev pub found_shown : List ℕ → List ℕ → Bool
found_shown pattern text = if is_utf8 text then option_map_or (λ parts. is_some (find_str parts.0.value text 0)) (read default_config pattern) false else false

abbrev pub due_day_shown : Profile_of_org_base_Profile → Stamp → ℕ → ℕ
due_day_shown One s today = s.day
due_day_shown Two s today = unwrap_or (first_passing (begins_on s) LAST_DAY (today + 1)) 0

abbrev pub joined_shown : Stamp → ℕ → Option (Stamp × ℕ) → Stamp × ℕ
joined_shown s n None = (s, n)
joined_shown s n (Some t) = if same_bool s.active t.0.active then ((record s { last = Some (t.0.day, t.0.time) }), n + 2 + t.1) else (s, n)

abbrev pub file_category_shown : Scope → List ℕ
file_category_shown scope = unwrap_or_of_std_Option (option_or (file_value scope (codes "CATEGORY")) scope.settings.category) (stem (after_last (λ b. b == 47) scope.file))

abbrev pub priority_value_shown : FileSettings → List ℕ → Option Span → List ℕ
priority_value_shown settings text None = if nat_lt 64 settings.default_priority then settings.default_priority ∷ [] else decimal settings.default_priority
priority_value_shown settings text (Some cookie) = cookie_value (bytes_in text cookie)

abbrev pub inner_of_shown : Bool → List ℕ → Option Stamp
inner_of_shown active [] = None
inner_of_shown active (b ∷ bs) = if is_space b then None else stamp_of_words active (filter is_word (slice_split is_space (b ∷ bs)))

abbrev pub is_name_shown : List ℕ → Bool
is_name_shown word = list_all (λ b. not (is_ascii_digit b) && not (b == 43) && not (b == 45) && not (b == 62) && not (b == 93) && not (b == 10)) word

abbrev pub times_of_shown : List ℕ → Option (ℕ × Option ℕ)
times_of_shown word = times_at word (position (λ b. b == 45) word)
