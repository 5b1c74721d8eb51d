-- What an event block remembers, as others see it.
use Rattle.fb_types.specs.EventBlocks.{Memory, Idle, Marks, Flag, Running, Count}
use Rattle.fb_event.specs.declared.memory.EventMemory.{EventMemory}
use Rattle.fb_event.specs.declared.memory.EventMemory.TheVariants as seen

-- what is seen of a memory
abbrev pub seen_memory : EventMemory → Memory
seen_memory seen.Idle = Idle
seen_memory (seen.Marks first second) = Marks first second
seen_memory (seen.Flag q) = Flag q
seen_memory (seen.Running time) = Running time
seen_memory (seen.Count count reached) = Count count reached
