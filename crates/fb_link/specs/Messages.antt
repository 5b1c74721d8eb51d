-- Where a message goes, and the key under which it waits there (this project's profile).
use Rattle.std.specs.Prelude.{ℕ}
use Rattle.fb_types.specs.Keys.{message_key}
use Rattle.fb_types.specs.Numbers.{path_at}
use Rattle.fb_types.specs.Systems.{System}
use Rattle.fb_types.specs.declared.key.Key.{Key}
use Rattle.fb_types.specs.declared.run.Message.{Message}

-- the resource to which a message goes
abbrev pub receiver_of : System → Message → ℕ
receiver_of sys m = sys.resource (path_at sys m.target.instance)

-- the key under which a message waits
abbrev pub key_of : System → Message → Key
key_of sys m = message_key m.arrives (receiver_of sys m) m.link m.number
