-- Letters, words and keywords (IEC 61499-1, Annex B, and IEC 61131-3, 6.1, in manner; letter case is this
-- project's profile: it is nowhere significant).
use Rattle.std.specs.Prelude.{ℕ, ◌-◌, Bool, ◌&&◌, ◌||◌, if◌then◌else◌, ◌==◌, nat_le, List, [], ◌∷◌, map, take, Option, Some, None, codes}
use Rattle.std.specs.List.{prefix_len}
use Rattle.std.specs.Char.{is_ascii_digit, is_ascii_alphabetic}
use Rattle.std.specs.Str.{bytes_eq}
use Rattle.fb_read.specs.declared.token.Mark.{Mark}
use Rattle.fb_read.specs.declared.token.Mark.TheVariants as mark
use Rattle.fb_read.specs.Blank.{Text}

-- a byte that a name may begin with
abbrev pub is_letter : ℕ → Bool
is_letter b = is_ascii_alphabetic b || b == 95

-- a byte of a word: a letter, a digit or an underscore
abbrev pub is_word : ℕ → Bool
is_word b = is_letter b || is_ascii_digit b

abbrev pub upper : ℕ → ℕ
upper b = if nat_le 97 b && nat_le b 122 then b - 32 else b

-- how long the word at the front of a text is
abbrev pub word_len : Text → ℕ
word_len = prefix_len is_word

abbrev pub word_of : Text → Text
word_of z = take (word_len z) z

abbrev pub in_upper : Text → Text
in_upper = map upper

abbrev pub Table : Type 0
Table = List (Text × Mark)

abbrev pub entry : Text → Mark → Text × Mark
entry text k = (text, k)

abbrev pub look_up : Table → Text → Option Mark
look_up [] word = None
look_up (found ∷ rest) word = if bytes_eq word found.0 then Some found.1 else look_up rest word

-- of declarations and networks
abbrev pub block_words : Table
block_words =
    entry (codes "FUNCTION_BLOCK") mark.FunctionBlock ∷ (entry (codes "END_FUNCTION_BLOCK") mark.EndFunctionBlock
    ∷ (entry (codes "APPLICATION") mark.Application ∷ (entry (codes "END_APPLICATION") mark.EndApplication
    ∷ (entry (codes "EVENT_INPUT") mark.EventInput ∷ (entry (codes "EVENT_OUTPUT") mark.EventOutput
    ∷ (entry (codes "END_EVENT") mark.EndEvent ∷ (entry (codes "WITH") mark.With
    ∷ (entry (codes "VAR_INPUT") mark.VarInput ∷ (entry (codes "VAR_OUTPUT") mark.VarOutput
    ∷ (entry (codes "VAR") mark.Var ∷ (entry (codes "END_VAR") mark.EndVar
    ∷ (entry (codes "FBS") mark.Fbs ∷ (entry (codes "END_FBS") mark.EndFbs
    ∷ [])))))))))))))

-- of connections and charts
abbrev pub section_words : Table
section_words =
    entry (codes "EVENT_CONNECTIONS") mark.EventConnections ∷ (entry (codes "DATA_CONNECTIONS") mark.DataConnections
    ∷ (entry (codes "END_CONNECTIONS") mark.EndConnections ∷ (entry (codes "EC_STATES") mark.EcStates
    ∷ (entry (codes "END_STATES") mark.EndStates ∷ (entry (codes "EC_TRANSITIONS") mark.EcTransitions
    ∷ (entry (codes "END_TRANSITIONS") mark.EndTransitions ∷ (entry (codes "ALGORITHM") mark.Algorithm
    ∷ (entry (codes "END_ALGORITHM") mark.EndAlgorithm ∷ (entry (codes "TO") mark.To
    ∷ [])))))))))

-- of types and constants
abbrev pub type_words : Table
type_words =
    entry (codes "BOOL") mark.Bool ∷ (entry (codes "SINT") mark.Sint ∷ (entry (codes "INT") mark.Int
    ∷ (entry (codes "DINT") mark.Dint ∷ (entry (codes "LINT") mark.Lint ∷ (entry (codes "USINT") mark.Usint
    ∷ (entry (codes "UINT") mark.Uint ∷ (entry (codes "UDINT") mark.Udint ∷ (entry (codes "ULINT") mark.Ulint
    ∷ (entry (codes "TIME") mark.Time ∷ (entry (codes "TRUE") mark.True ∷ (entry (codes "FALSE") mark.False
    ∷ [])))))))))))

-- of statements
abbrev pub statement_words : Table
statement_words =
    entry (codes "IF") mark.If ∷ (entry (codes "THEN") mark.Then ∷ (entry (codes "ELSIF") mark.Elsif
    ∷ (entry (codes "ELSE") mark.Else ∷ (entry (codes "END_IF") mark.EndIf ∷ (entry (codes "CASE") mark.Case
    ∷ (entry (codes "OF") mark.Of ∷ (entry (codes "END_CASE") mark.EndCase ∷ (entry (codes "FOR") mark.For
    ∷ (entry (codes "BY") mark.By ∷ (entry (codes "DO") mark.Do ∷ (entry (codes "END_FOR") mark.EndFor
    ∷ [])))))))))))

-- of loops and jumps
abbrev pub loop_words : Table
loop_words =
    entry (codes "WHILE") mark.While ∷ (entry (codes "END_WHILE") mark.EndWhile
    ∷ (entry (codes "REPEAT") mark.Repeat ∷ (entry (codes "UNTIL") mark.Until
    ∷ (entry (codes "END_REPEAT") mark.EndRepeat ∷ (entry (codes "EXIT") mark.Exit
    ∷ (entry (codes "RETURN") mark.Return ∷ []))))))

-- of operators
abbrev pub operator_words : Table
operator_words =
    entry (codes "AND") mark.And ∷ (entry (codes "OR") mark.Or ∷ (entry (codes "XOR") mark.Xor
    ∷ (entry (codes "NOT") mark.Not ∷ (entry (codes "MOD") mark.Mod ∷ []))))

abbrev pub or_else : Option Mark → Option Mark → Option Mark
or_else (Some k) other = Some k
or_else None other = other

-- the keyword that a word in upper case is
unfoldable pub keyword : Text → Option Mark
keyword word =
    or_else (look_up block_words word) (or_else (look_up section_words word) (or_else (look_up type_words word)
    (or_else (look_up statement_words word) (or_else (look_up loop_words word) (look_up operator_words word)))))
