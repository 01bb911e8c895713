-- A heap's state as the definitions of the model have it.
use Rattle.memory.specs.Memory.{Memory}
use Rattle.model.specs.Heap.{Heap as Model}
use Rattle.state.specs.View.{state_of}
use Rattle.heap.specs.declared.heap_state.Heap.{Heap}

abbrev pub view : {H L : Type 0} → (H → Memory) → Heap H L → Model
view means h = state_of (means h.host) h.plain
