-- What an end can hold: the tables whose bytes a host keeps.
use Rattle.std.specs.Prelude.{◌<◌, ◌≡◌, false, length}
use Rattle.paper.specs.Sizes.{STORE}
use Rattle.table.specs.declared.Table.{Table}
use Rattle.table.specs.Totals.{is_awaited}
use Rattle.table.specs.Sound.{some}
use Rattle.connection.specs.States.{State}
use Rattle.shore.specs.declared.Shore.{Shore}
use Rattle.shore.specs.Shore.{Standing}
use Rattle.saved.specs.Kept.{Kept}

-- the client: it awaits no number
pub record ClientCanHold (t : Table) : Type 0 where
  pub table : Kept t
  pub none_awaited : some is_awaited t.records ≡ false

-- the shore: a version asked for has 16 bits
pub record ShoreCanHold (s : Shore) : Type 0 where
  pub table : Kept s.table
  pub asked : s.asked < 65536

-- with a store of its size
pub record ClientAt (st : State) : Type 0 where
  pub holds : ClientCanHold st.table
  pub store : length st.store ≡ STORE

pub record ShoreAt (st : Standing) : Type 0 where
  pub holds : ShoreCanHold st.shore
  pub store : length st.store ≡ STORE
