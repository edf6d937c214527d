mod Joined
mod Slots
mod Tables
