mod Lines
mod Sent
