-- Latched: what latching leaves. Silent: what is known where nothing can interrupt.
pub mod Latched
pub mod Silent
