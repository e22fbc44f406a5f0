-- An instance may be shared among threads, and may go to another.
use denote.Param.Send.{sendable, IsSend, IsSync}
use Rattle.std.proofs.Crossing.{crosses}
use Rattle.shift_instance.specs.contracts.Instance.{the_row}

pub instance_send : IsSend the_row
instance_send = search (crosses, sendable) depth 60 fits 20000

pub instance_sync : IsSync the_row
instance_sync = search (crosses, sendable) depth 60 fits 20000
