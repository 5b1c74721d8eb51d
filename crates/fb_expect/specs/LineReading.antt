-- Lines of events, read part by part (this project's own). What a line is, is in Events: this is how far each reader comes.
use Rattle.std.specs.Prelude.{ℕ, ◌^◌, ◌-◌, Bool, true, false, ◌&&◌, ◌||◌, if◌then◌else◌, Option, Some, None, is_some, codes}
use Rattle.std.specs.Str.{bytes_eq}
use Rattle.fb_types.specs.declared.run.Form.{Form}
use Rattle.fb_types.specs.declared.run.Form.TheVariants.{One, Two}
use Rattle.fb_expect.specs.Events.{Event}
use Rattle.fb_expect.specs.declared.ending.End.{End}
use Rattle.fb_expect.specs.declared.ending.End.TheVariants.{Horizon, Stop}
use Rattle.fb_expect.specs.Words.{Text, ◌>>=◌, after_front, are_values, before, cut, is_name, is_port, magnitude, natural}

-- what comes after a number that is at most `most`, and a blank
unfoldable pub after_number : (most : ℕ) → Text → Option Text
after_number most z = cut z >>= λ p. if is_some (natural most p.0) then after_front (codes " ") p.1 else None

-- what comes after three numbers, the key of form two
unfoldable pub after_key : Text → Option Text
after_key z = after_number (2 ^ 8 - 1) z >>= λ y. after_number (2 ^ 128 - 1) y >>= λ x. after_number (2 ^ 128 - 1) x

abbrev pub after_head : Form → Text → Option Text
after_head One z = Some z
after_head Two z = after_key z

-- the tick and the resource that a text begins with, and what comes after them
unfoldable pub start_of : Text → Option (ℕ × Text × Text)
start_of z =
    cut z >>= λ p. magnitude p.0 >>= λ tick. after_front (codes " ") p.1 >>= λ y. cut y >>= λ q.
    if is_name q.0 then Some (tick, q.0, q.1) else None

-- the side that a text begins with, and what comes after it
abbrev pub side_by : Option Text → Option Text → Option (Bool × Text)
side_by (Some z) other = Some (true, z)
side_by None other = other >>= λ z. Some (false, z)

unfoldable pub side_of : Text → Option (Bool × Text)
side_of z = side_by (after_front (codes " > ") z) (after_front (codes " < ") z)

-- the port that a text begins with, and the values between it and the line feed
unfoldable pub port_of : Text → Option (Text × Text)
port_of z = cut z >>= λ p. before (codes "\n") p.1 >>= λ values. if is_port p.0 && are_values values then Some (p.0, values) else None

-- the event of a line, if it is one
unfoldable pub read_line : Form → Text → Option Event
read_line form z =
    after_head form z >>= λ y. start_of y >>= λ s. side_of s.2 >>= λ t. port_of t.1 >>= λ p.
    Some (record { tick = s.0; resource = s.1; taken = t.0; port = p.0; values = p.1 })

-- ---- The last line

abbrev pub is_reason : Text → Bool
is_reason z = bytes_eq z (codes "steps") || (bytes_eq z (codes "divide") || bytes_eq z (codes "range"))

-- the tick of a stop
unfoldable pub stop_of : Text → Option ℕ
stop_of z = start_of z >>= λ s. after_front (codes " ") s.2 >>= λ reason. if is_reason reason then Some s.0 else None

abbrev pub end_by : Option Text → Text → Option End
end_by (Some digits) z = magnitude digits >>= λ h. Some (Horizon h)
end_by None z = after_front (codes "stop ") z >>= λ y. stop_of y >>= λ t. Some (Stop t)

-- the end in a line, if it is a last line
unfoldable pub read_end : Text → Option End
read_end z = before (codes "\n") z >>= λ y. end_by (after_front (codes "end ") y) y
