-- A handle may move to another thread: so may its player, and any thread may free its memory.
use mathlib.Core.List.{List, [], ◌∷◌}
use mir.Raw.{raw}
use base.Shift.{Keyless}
use denote.Builtin.{RawPtr}
use denote.Memory.{lone}
use denote.Param.Send.{IsSend, owning_send, sendable, struct_send}
use denote.RawPtr.{Ptr}
use denote.Struct.Owning.{fields, shape, to}
use denote.Struct.Struct.{exits_of}
use Rattle.std_alloc.proofs.SendSync.{lies, quiet}
use Rattle.std_heap.proofs.Global.TheSendSync as global
use Rattle.std_heap.proofs.GlobalAllocator.TheSendSync.{the_frees}
use Rattle.std_heap.specs.contracts.Global as Heap
use Rattle.std.specs.Global.{Global}
use Rattle.live_player.proofs.live.LivePlayer.TheSendSync as live
use Rattle.live_player.specs.contracts.live.LivePlayer as Live
use Rattle.live_player.specs.declared.live.LivePlayer.{LivePlayer}
use Rattle.ribjasper_c.specs.Handles.{handle_owns}
use Rattle.ribjasper_c.specs.contracts.handle.Handle as Handle

pointer_send : IsSend RawPtr
pointer_send = search sendable

owned : (alloc : Global) (at : Ptr) (players : List LivePlayer) → Keyless (handle_owns alloc at players)
owned alloc at [] = tt
owned alloc at (player ∷ rest) =
    (lies Live.the_row live.the_send at player, the_frees.frees alloc (raw (lone Live.the_row.mir)) at)

pub send : IsSend Handle.the_row
send =
    let O = Handle.the_type in
    owning_send O (pointer_send, (global.the_field_send, tt)) (λ d. owned d.alloc d.at d.players)
    (λ k. quiet (to O) (exits_of k (fields O))
    ((struct_send (shape O) (pointer_send, (global.the_field_send, tt))).leaving k))
