-- Room to take over the summary `second`: for each of its tables.
use Rattle.vme_monitor.specs.WholeTables.{HasRoomFor}
use Rattle.vme_summary.specs.declared.summary.Room.{Room}
use Rattle.vme_summary.specs.declared.summary.MonitorSummaries.{MonitorSummaries}

-- each table of `first` has room to take over the same monitor's table of `second`
pub record HasRoom (room : Room) (first second : MonitorSummaries) : Type 0 where
  pub known : HasRoomFor room.known first.known second.known
  pub handshake : HasRoomFor room.handshake first.handshake second.handshake
  pub stability : HasRoomFor room.stability first.stability second.stability
  pub grant : HasRoomFor room.grant first.grant second.grant
  pub acknowledge : HasRoomFor room.acknowledge first.acknowledge second.acknowledge
