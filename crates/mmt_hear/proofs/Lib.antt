pub mod PacketTypes
