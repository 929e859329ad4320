-- The rack queue: hands out the oldest message and removes it. Its state is the list of the messages that wait.
use Rattle.std.specs.Prelude.{List}
use Rattle.std.specs.List.{remove, slice_get}
use Rattle.radio.specs.declared.message.Message.{Message}
use Rattle.radio.specs.Ways.{Ways}
use Rattle.radio.specs.Waiting.{entered}

abbrev pub queue_ways : Ways (List Message)
queue_ways = record {
  after_put = entered;
  after_take = λ ms. remove ms 0;
  taken = λ ms. slice_get ms 0;
  air = λ ms. ms;
}
