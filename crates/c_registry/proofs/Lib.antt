mod Afar
mod Connecting
mod Denied
mod Laid
mod Slot
mod Reported
mod Shown
mod Told
