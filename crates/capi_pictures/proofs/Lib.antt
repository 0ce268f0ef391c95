pub mod Unwrapped
