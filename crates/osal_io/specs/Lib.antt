pub use Rattle.osal_file.specs.Files
pub use Rattle.osal_socket.specs.Net
pub use Rattle.osal_object.specs.Deadlines
pub mod Io
pub mod Sockets
pub mod Select
pub mod Ends
pub mod Calls
