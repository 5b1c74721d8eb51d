-- How the code holds what it reads and seeks.
use Rattle.std.specs.Prelude.{◌≡◌, ◌-◌, Bool, false, List, [], map}
use Rattle.toml_parser.specs.Reading.{key_view}
use Rattle.toml_parser.specs.Strings.{recursion_limit}
use Rattle.fb_deploy_positions.specs.Entries.{Entry, elements_in, entry_of, has_no_heading, is_array, is_element_entry, is_in_element, is_nth_heading, is_top_entry, member_view}
use Rattle.fb_deploy_positions.specs.Statements.{StatementAt}
use Rattle.fb_deploy_positions.specs.Values.{Text}
use Rattle.fb_deploy_positions.specs.declared.entry.Entry as code_entry
use Rattle.fb_deploy_positions.specs.declared.entry.Entry.TheVariants as entry
use Rattle.fb_deploy_positions.specs.declared.statement.Statement as code
use Rattle.fb_deploy_positions.specs.declared.search.Passed as code_passed
use Rattle.fb_deploy_positions.specs.declared.search.Wanted as code_wanted
use Rattle.fb_deploy_positions.specs.declared.search.Wanted.TheVariants as wanted

-- ---- Statements

abbrev pub statement_view : code.Statement → StatementAt
statement_view s = record { kind = s.kind; key = key_view s.key; begin = s.begin.now; value = s.value.now }

abbrev pub statements_view : List code.Statement → List StatementAt
statements_view statements = map statement_view statements

-- ---- Searches

-- the key of the array whose elements a search counts
abbrev pub array_sought : code_wanted.Wanted → Text
array_sought (wanted.Heading array index) = array.now
array_sought (wanted.Array array) = array.now
array_sought (wanted.TopEntry name) = []
array_sought (wanted.ElementEntry array index name) = array.now

-- the statement is the one that is sought, after these before it
abbrev pub is_wanted : code_wanted.Wanted → List StatementAt → StatementAt → Bool
is_wanted (wanted.Heading array index) = is_nth_heading array.now index
is_wanted (wanted.Array array) = is_array array.now
is_wanted (wanted.TopEntry name) = is_top_entry name.now
is_wanted (wanted.ElementEntry array index name) = is_element_entry array.now index name.now

-- what is known of these statements, which were passed
pub record IsPassed (array : Text) (before : List StatementAt) (passed : code_passed.Passed) : Type 0 where
  pub elements : passed.elements ≡ elements_in array before
  pub in_element : passed.in_element ≡ is_in_element array false before
  pub no_heading : passed.no_heading ≡ has_no_heading before

-- ---- Entries

abbrev pub entry_view : code_entry.Entry → Entry
entry_view (entry.Statement s) = entry_of (statement_view s.now)
entry_view (entry.Member m) = member_view (recursion_limit - 2) m
