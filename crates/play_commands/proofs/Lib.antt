pub mod DoorLaws
