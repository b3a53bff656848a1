pub mod CaptureRooms
